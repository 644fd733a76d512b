use Rattle.std.proofs.Common.{subst, sym}
use Rattle.cmd_log.specs.Answering.{IsAnswered, reply_for}
use Rattle.lang_log.specs.declared.call.LogCall.TheVariants.{Order}
use Rattle.lang_log.specs.declared.call.LogReply.TheVariants as reply
use Rattle.cmd_log.proofs.Answering.{order_done, order_refused}
use Rattle.cmd_log.proofs.serving.Logged.order.Goals as goal

pub returns-in-Err : goal.returns-in-Err
returns-in-Err g c =
    subst (λ answer. IsAnswered g.S.Blocks.tells g.S.Blocks.state Order answer c.args.self.now c.order.new.self) (sym c.reply_for.ensures)
    (subst (λ q. IsAnswered g.S.Blocks.tells g.S.Blocks.state Order (reply_for c.in-Err.why) q c.order.new.self) c.self.view_is
    (order_refused g.S.Blocks.tells g.S.Blocks.state c.self.inside.log c.order.new.self c.order.ensures.most c.in-Err.why c.in-Err.ensures.goes c.in-Err.ensures.cause))

pub returns : goal.returns
returns g c =
    subst (λ q. IsAnswered g.S.Blocks.tells g.S.Blocks.state Order (reply.Ordered c.in-Ok.point) q c.order.new.self) c.self.view_is
    (order_done g.S.Blocks.tells g.S.Blocks.state c.self.inside.log c.order.new.self c.order.ensures.most c.in-Ok.point c.in-Ok.ensures.goes c.in-Ok.ensures.asked)
