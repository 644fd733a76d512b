use Rattle.std.proofs.Common.{subst, sym}
use Rattle.cmd_log.specs.Answering.{IsAnswered, reply_for}
use Rattle.lang_log.specs.declared.call.LogCall.TheVariants.{Trim}
use Rattle.lang_log.specs.declared.call.LogReply.TheVariants as reply
use Rattle.cmd_log.proofs.Answering.{trim_done, trim_refused}
use Rattle.cmd_log.proofs.serving.Logged.trim.Goals as goal

pub returns-in-Err : goal.returns-in-Err
returns-in-Err g c =
    subst (λ answer. IsAnswered g.S.Blocks.tells g.S.Blocks.state (Trim c.args.number) answer c.args.self.now c.trim-trimmed.new.self) (sym c.reply_for.ensures)
    (subst (λ q. IsAnswered g.S.Blocks.tells g.S.Blocks.state (Trim c.args.number) (reply_for c.in-Err.why) q c.trim-trimmed.new.self) c.self.view_is
    (trim_refused g.S.Blocks.tells g.S.Blocks.state c.self.inside.log c.trim-trimmed.new.self c.trim-trimmed.ensures.most c.args.number c.in-Err.why c.in-Err.ensures.goes c.in-Err.ensures.cause))

pub returns : goal.returns
returns g c =
    subst (λ q. IsAnswered g.S.Blocks.tells g.S.Blocks.state (Trim c.args.number) (reply.Low c.in-Ok.low) q c.trim-trimmed.new.self) c.self.view_is
    (trim_done g.S.Blocks.tells g.S.Blocks.state c.self.inside.log c.trim-trimmed.new.self c.trim-trimmed.ensures.most c.args.number c.in-Ok.low c.range.ensures.told c.in-Ok.ensures.goes c.in-Ok.ensures.end c.in-Ok.ensures.low c.in-Ok.ensures.asked)
