use Rattle.std.proofs.Common.{subst, sym}
use Rattle.cmd_log.specs.Answering.{IsAnswered, reply_for}
use Rattle.lang_log.specs.declared.call.LogCall.TheVariants.{Get}
use Rattle.lang_log.specs.declared.call.LogReply.TheVariants as reply
use Rattle.cmd_log.proofs.Answering.{get_done, get_refused}
use Rattle.cmd_log.proofs.serving.Logged.get.Goals as goal

pub returns-in-Err : goal.returns-in-Err
returns-in-Err g c =
    subst (λ answer. IsAnswered g.S.Blocks.tells g.S.Blocks.state (Get c.args.number) answer c.args.self.now c.get.new.self) (sym c.reply_for.ensures)
    (subst (λ q. IsAnswered g.S.Blocks.tells g.S.Blocks.state (Get c.args.number) (reply_for c.in-Err.why) q c.get.new.self) c.self.view_is
    (get_refused g.S.Blocks.tells g.S.Blocks.state c.self.inside.log c.get.new.self c.get.ensures.most c.args.number c.in-Err.why c.range.ensures.told c.in-Err.ensures.goes c.in-Err.ensures.none c.in-Err.ensures.range c.in-Err.ensures.cause))

pub returns : goal.returns
returns g c =
    subst (λ q. IsAnswered g.S.Blocks.tells g.S.Blocks.state (Get c.args.number) (reply.Bytes c.in-Ok.bytes) q c.get.new.self) c.self.view_is
    (get_done g.S.Blocks.tells g.S.Blocks.state c.self.inside.log c.get.new.self c.get.ensures.most c.args.number c.in-Ok.bytes c.range.ensures.told c.in-Ok.ensures.goes c.in-Ok.ensures.bytes c.in-Ok.ensures.none c.in-Ok.ensures.asked)
