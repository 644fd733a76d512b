use Rattle.lang_tree.specs.declared.command.Cmd.TheVariants.{List as ListNames}
use Rattle.fs_commands.proofs.planning.Looks.{look_plan, list_looks}
use Rattle.fs_commands.proofs.look.plan_list.Goals as goal

pub returns-clause-plans : goal.returns-clause-plans
returns-clause-plans g c =
    look_plan g.S.Blocks.tells g.S.Blocks.state c.calls_compose.ensures.rests g.met.S.Blocks.is_sound (ListNames c.args.path.now) c.args.blocks.now c.list.new.blocks c.list.result c.answer.result c.answer.ensures (list_looks c.args.path.now) c.requires.may.begin.going c.list.ensures.answer c.list.ensures.refused c.list.ensures.looks
