use Rattle.std.proofs.Common.{subst, sym}
use Rattle.lang_log.specs.declared.call.LogReply.TheVariants as reply
use Rattle.fs_commands.specs.Opened.{blocks_in}
use Rattle.cmd_log.specs.Answering.{IsAnswered}
use Rattle.cmd_log.proofs.Answering.{not_understood}
use Rattle.cmd_log.proofs.serving.Logged.reply.Goals as goal

pub returns-in-Bad : goal.returns-in-Bad
returns-in-Bad g c =
    subst (λ call. IsAnswered g.S.Blocks.tells g.S.Blocks.state call reply.Bad c.args.self.now c.args.self.now) (sym c.in-Bad.is)
    (not_understood g.S.Blocks.tells g.S.Blocks.state c.args.self.now (λ told. c.a_resting_log_is_as_it_was.ensures told (blocks_in c.args.self.now.fs)))
