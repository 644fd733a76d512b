use Rattle.std.proofs.Common.{true, Ok, Err, sym, subst}
use Rattle.lang_tree.specs.declared.command.Cmd.TheVariants.{Osync}
use Rattle.lang_tree.specs.declared.command.Refusal.{Refusal}
use Rattle.lang_tree.specs.declared.command.Reply.{Reply}
use Rattle.fs_session.specs.Syncs.{SyncsSession}
use Rattle.fs_session.proofs.syncing.Synced.{ok_err, orders_so, synced_session, between_after, between_refused, refused_session}
use Rattle.fs_session.proofs.syncs.osync.Goals as goal

pub returns-in-Ok-clause-syncs : goal.returns-in-Ok-clause-syncs
returns-in-Ok-clause-syncs g c =
    let s = g.S.Blocks.state c.args.blocks.now in
    let t = g.S.Blocks.state c.osync.new.self in
    subst (λ (r : Reply). SyncsSession g.S.Blocks.tells true Osync (Ok r) s t) (sym c.synced.ensures.reply)
    (synced_session g.S.Blocks.tells s t c.in-Ok.point c.requires.may.going c.in-Ok.ensures.syncs c.synced.ensures.low (orders_so g.S.Blocks.tells s t c.in-Ok.ensures.order c.in-Ok.ensures.writes c.in-Ok.ensures.idles) c.in-Ok.ensures.frees c.in-Ok.ensures.written)

pub returns-in-Ok-clause-between : goal.returns-in-Ok-clause-between
returns-in-Ok-clause-between g c = λ unused between.
    between_after g.S.Blocks.tells (g.S.Blocks.state c.args.blocks.now) (g.S.Blocks.state c.osync.new.self) unused c.in-Ok.point c.a_sync_may_follow.ensures.synced c.in-Ok.ensures.syncs between

pub returns-in-Err-clause-syncs : goal.returns-in-Err-clause-syncs
returns-in-Err-clause-syncs g c =
    let s = g.S.Blocks.state c.args.blocks.now in
    let t = g.S.Blocks.state c.osync.new.self in
    subst (λ (why : Refusal). SyncsSession g.S.Blocks.tells true Osync (Err why) s t) (sym c.refusal_of_sync.ensures)
    (refused_session g.S.Blocks.tells true Osync s t c.in-Err.why c.requires.may.going c.in-Err.ensures.syncs (λ idle. absurd (ok_err s.books.point c.in-Err.why (sym (c.in-Err.ensures.idle idle)))) (orders_so g.S.Blocks.tells s t c.in-Err.ensures.order c.in-Err.ensures.writes c.in-Err.ensures.idles))

pub returns-in-Err-clause-between : goal.returns-in-Err-clause-between
returns-in-Err-clause-between g c = λ unused between.
    between_refused g.S.Blocks.tells (g.S.Blocks.state c.args.blocks.now) (g.S.Blocks.state c.osync.new.self) unused c.in-Err.why c.a_sync_may_follow.ensures.synced c.in-Err.ensures.syncs between
