use Rattle.std.proofs.Common.{subst}
use Rattle.lang_log.specs.declared.call.LogCall.TheVariants.{Count}
use Rattle.lang_log.specs.declared.call.LogReply.TheVariants as reply
use Rattle.fs_commands.specs.Opened.{blocks_in}
use Rattle.cmd_log.specs.Answering.{IsAnswered}
use Rattle.cmd_log.proofs.Answering.{counted}
use Rattle.cmd_log.proofs.serving.Logged.count.Goals as goal

pub returns : goal.returns
returns g c =
    subst (λ q. IsAnswered g.S.Blocks.tells g.S.Blocks.state Count (reply.Range c.range-low.result.0 c.range-low.result.1) q q) c.self.view_is
    (counted g.S.Blocks.tells g.S.Blocks.state c.self.inside.log (λ told. c.a_resting_log_is_as_it_was.ensures told (blocks_in c.self.inside.log.fs)) c.range-low.result.0 c.range-low.result.1
    c.range-low.ensures.told c.range-low.ensures.shown.0 c.range-low.ensures.shown.1)
