use Rattle.std.proofs.Common.{false, Ok, Err, sym, subst}
use Rattle.lang_tree.specs.declared.command.Cmd.TheVariants.{Dsync}
use Rattle.lang_tree.specs.declared.command.Refusal.{Refusal}
use Rattle.lang_tree.specs.declared.command.Reply.{Reply}
use Rattle.fs_session.specs.Syncs.{SyncsSession}
use Rattle.fs_session.proofs.syncing.Synced.{dsynced_session, waits_so, between_after, between_refused, refused_session}
use Rattle.fs_session.proofs.syncs.dsync.Goals as goal

pub returns-in-Ok-clause-syncs : goal.returns-in-Ok-clause-syncs
returns-in-Ok-clause-syncs g c =
    let s = g.S.Blocks.state c.args.blocks.now in
    let t = g.S.Blocks.state c.dsync.new.self in
    subst (λ (r : Reply). SyncsSession g.S.Blocks.tells false Dsync (Ok r) s t) (sym c.durable_at.ensures.reply)
    (dsynced_session g.S.Blocks.tells s t c.in-Ok.point c.requires.may.going c.in-Ok.ensures.syncs c.durable_at.ensures.low c.in-Ok.ensures.durable (waits_so g.S.Blocks.tells s t c.in-Ok.ensures.waits) c.in-Ok.ensures.frees c.in-Ok.ensures.written)

pub returns-in-Ok-clause-between : goal.returns-in-Ok-clause-between
returns-in-Ok-clause-between g c = λ unused between.
    between_after g.S.Blocks.tells (g.S.Blocks.state c.args.blocks.now) (g.S.Blocks.state c.dsync.new.self) unused c.in-Ok.point c.a_sync_may_follow.ensures.synced c.in-Ok.ensures.syncs between

pub returns-in-Err-clause-syncs : goal.returns-in-Err-clause-syncs
returns-in-Err-clause-syncs g c =
    let s = g.S.Blocks.state c.args.blocks.now in
    let t = g.S.Blocks.state c.dsync.new.self in
    subst (λ (why : Refusal). SyncsSession g.S.Blocks.tells false Dsync (Err why) s t) (sym c.refusal_of_sync.ensures)
    (refused_session g.S.Blocks.tells false Dsync s t c.in-Err.why c.requires.may.going c.in-Err.ensures.syncs c.in-Err.ensures.idle (waits_so g.S.Blocks.tells s t c.in-Err.ensures.waits))

pub returns-in-Err-clause-between : goal.returns-in-Err-clause-between
returns-in-Err-clause-between g c = λ unused between.
    between_refused g.S.Blocks.tells (g.S.Blocks.state c.args.blocks.now) (g.S.Blocks.state c.dsync.new.self) unused c.in-Err.why c.a_sync_may_follow.ensures.synced c.in-Err.ensures.syncs between
