use Rattle.lang_tree.specs.declared.command.Cmd.TheVariants.{Read}
use Rattle.fs_commands.proofs.planning.Looks.{look_plan, read_looks}
use Rattle.fs_commands.proofs.look.plan_read.Goals as goal

pub returns-clause-plans : goal.returns-clause-plans
returns-clause-plans g c =
    look_plan g.S.Blocks.tells g.S.Blocks.state c.calls_compose.ensures.rests g.met.S.Blocks.is_sound (Read c.args.path.now c.args.offset c.args.len) c.args.blocks.now c.read.new.blocks c.read.result c.answer.result c.answer.ensures (read_looks c.args.path.now c.args.offset c.args.len) c.requires.may.begin.going c.read.ensures.answer c.read.ensures.refused c.read.ensures.looks
