use Rattle.lang_tree.specs.declared.command.Cmd.TheVariants.{Stat}
use Rattle.fs_commands.proofs.planning.Looks.{look_plan, stat_looks}
use Rattle.fs_commands.proofs.look.plan_stat.Goals as goal

pub returns-clause-plans : goal.returns-clause-plans
returns-clause-plans g c =
    look_plan g.S.Blocks.tells g.S.Blocks.state c.calls_compose.ensures.rests g.met.S.Blocks.is_sound (Stat c.args.path.now) c.args.blocks.now c.stat.new.blocks c.stat.result c.answer.result c.answer.ensures (stat_looks c.args.path.now) c.requires.may.begin.going c.stat.ensures.answer c.stat.ensures.refused c.stat.ensures.looks
