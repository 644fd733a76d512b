use Rattle.std.proofs.Common.{ℕ, Ok, Err, subst}
use Rattle.lang_tree.specs.declared.command.Refusal.TheVariants as because
use Rattle.lang_tree.specs.declared.command.Reply.TheVariants.{DurableAt, Refused}
use Rattle.fs_session.specs.Syncs.{WaitsSession}
use Rattle.fs_session.proofs.syncing.Awaited.{failed_by, lacked_by, there_where_done, waited}
use Rattle.fs_session.proofs.syncs.dwait.Goals as goal

pub returns-in-Ok-clause-waits : goal.returns-in-Ok-clause-waits
returns-in-Ok-clause-waits g c =
    let s = g.S.Blocks.state c.args.blocks.now in
    let t = g.S.Blocks.state c.wait_for.new.self in
    let e = c.in-Ok.ensures in
    subst (λ (n : ℕ). WaitsSession g.S.Blocks.tells n (Ok (DurableAt c.from-point.result)) s t) c.from-point.ensures
    (waited g.S.Blocks.tells c.from-point.result s t c.requires.may.going (record { frees = e.frees; ticks = e.ticks; still = e.still; hears = e.waits; idles = e.idles; none = e.none })
    e.moves (there_where_done _ _ s.books.point c.from-point.result e.exact) e.durable)

pub returns-in-Err-NoPoint-clause-waits : goal.returns-in-Err-NoPoint-clause-waits
returns-in-Err-NoPoint-clause-waits g c =
    let s = g.S.Blocks.state c.args.blocks.now in
    let t = g.S.Blocks.state c.wait_for.new.self in
    let e = c.in-Err-NoPoint.ensures in
    subst (λ (n : ℕ). WaitsSession g.S.Blocks.tells n (Ok (Refused (because.NoPoint c.in-Err-NoPoint.last))) s t) c.from-point.ensures
    (lacked_by _ g.S.Blocks.tells c.from-point.result s t c.requires.may.going (record { frees = e.frees; ticks = e.ticks; still = e.still; hears = e.waits; idles = e.idles; none = e.none })
    c.in-Err-NoPoint.field-0 c.in-Err-NoPoint.last c.in-Err-NoPoint.field-0-is e.moves e.exact e.there)

pub returns-in-Err-DiskFault-clause-waits : goal.returns-in-Err-DiskFault-clause-waits
returns-in-Err-DiskFault-clause-waits g c =
    let s = g.S.Blocks.state c.args.blocks.now in
    let t = g.S.Blocks.state c.wait_for.new.self in
    let e = c.in-Err-DiskFault.ensures in
    subst (λ (n : ℕ). WaitsSession g.S.Blocks.tells n (Err because.DiskFault) s t) c.from-point.ensures
    (failed_by (Unit {0}) g.S.Blocks.tells c.from-point.result s t c.requires.may.going (record { frees = e.frees; ticks = e.ticks; still = e.still; hears = e.waits; idles = e.idles; none = e.none })
    c.in-Err-DiskFault.field-0 c.in-Err-DiskFault.field-0-is e.moves)
