use Rattle.std.proofs.Common.{subst, sym}
use Rattle.cmd_log.specs.Answering.{IsAnswered, reply_for}
use Rattle.lang_log.specs.declared.call.LogCall.TheVariants.{Sync}
use Rattle.lang_log.specs.declared.call.LogReply.TheVariants as reply
use Rattle.cmd_log.proofs.Answering.{sync_done, sync_refused}
use Rattle.cmd_log.proofs.serving.Logged.sync.Goals as goal

pub returns-in-Err : goal.returns-in-Err
returns-in-Err g c =
    subst (λ answer. IsAnswered g.S.Blocks.tells g.S.Blocks.state Sync answer c.args.self.now c.sync.new.self) (sym c.reply_for.ensures)
    (subst (λ q. IsAnswered g.S.Blocks.tells g.S.Blocks.state Sync (reply_for c.in-Err.why) q c.sync.new.self) c.self.view_is
    (sync_refused g.S.Blocks.tells g.S.Blocks.state c.self.inside.log c.sync.new.self c.sync.ensures.most c.in-Err.why c.in-Err.ensures.refused c.in-Err.ensures.cause))

pub returns : goal.returns
returns g c =
    subst (λ q. IsAnswered g.S.Blocks.tells g.S.Blocks.state Sync (reply.Durable c.in-Ok.point) q c.sync.new.self) c.self.view_is
    (sync_done g.S.Blocks.tells g.S.Blocks.state c.self.inside.log c.sync.new.self c.sync.ensures.most c.in-Ok.point c.in-Ok.ensures.done c.in-Ok.ensures.kept c.in-Ok.ensures.asked)
