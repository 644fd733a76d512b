use Rattle.std.proofs.Common.{subst, sym, arith}
use Rattle.lang_log.specs.declared.call.LogCall.TheVariants.{Append}
use Rattle.lang_log.specs.declared.call.LogReply.TheVariants as reply
use Rattle.cmd_log.specs.Answering.{IsAnswered, reply_for}
use Rattle.cmd_log.proofs.Answering.{append_done, append_refused}
use Rattle.cmd_log.proofs.serving.Logged.append.Goals as goal

pub returns-in-Err : goal.returns-in-Err
returns-in-Err g c =
    subst (λ answer. IsAnswered g.S.Blocks.tells g.S.Blocks.state (Append c.args.bytes.now) answer c.args.self.now c.append.new.self) (sym c.reply_for.ensures)
    (subst (λ q. IsAnswered g.S.Blocks.tells g.S.Blocks.state (Append c.args.bytes.now) (reply_for c.in-Err.why) q c.append.new.self) c.self.view_is
    (append_refused g.S.Blocks.tells g.S.Blocks.state c.self.inside.log c.append.new.self c.append.ensures.most c.args.bytes.now c.in-Err.why c.range-next.ensures.told
    (omega (arith, c.is_below_the_end.ensures, c.range-next.ensures.shown.1)) c.in-Err.ensures.refused c.in-Err.ensures.same c.in-Err.ensures.long c.in-Err.ensures.end c.in-Err.ensures.cause))

pub returns : goal.returns
returns g c =
    subst (λ q. IsAnswered g.S.Blocks.tells g.S.Blocks.state (Append c.args.bytes.now) (reply.Number c.in-Ok.number) q c.append.new.self) c.self.view_is
    (append_done g.S.Blocks.tells g.S.Blocks.state c.self.inside.log c.append.new.self c.append.ensures.most c.args.bytes.now c.in-Ok.number c.range-next.ensures.told
    (omega (arith, c.is_below_the_end.ensures, c.range-next.ensures.shown.1)) c.in-Ok.ensures.done c.in-Ok.ensures.number c.in-Ok.ensures.long c.in-Ok.ensures.end c.in-Ok.ensures.asked)
