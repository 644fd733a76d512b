use Rattle.std.proofs.Common.{[]}
use Rattle.fs_commands.specs.Removing.{lose_cmd}
use Rattle.fs_commands.proofs.planning.Looking.{cut_short}
use Rattle.fs_commands.proofs.removed.Refused.{refused_loss}
use Rattle.fs_commands.proofs.removing.plan_root_loss.Goals as goal

pub returns-in-Ok-clause-plans : goal.returns-in-Ok-clause-plans
returns-in-Ok-clause-plans g c =
    refused_loss g.S.Blocks.tells g.S.Blocks.state c.calls_compose.ensures.rests g.met.S.Blocks.is_sound c.blocks_have_the_map_of_their_tree.ensures.map c.the_map_gives_the_refusal.ensures.refusal c.args.kind [] c.args.blocks.now c.root_refusal.new.blocks c.in-Ok.why c.requires.may.begin.going c.in-Ok.ensures.reason c.in-Ok.ensures.looks

pub returns-in-Err-clause-plans : goal.returns-in-Err-clause-plans
returns-in-Err-clause-plans g c =
    cut_short g.S.Blocks.tells g.S.Blocks.state c.calls_compose.ensures.rests (lose_cmd c.args.kind []) c.args.blocks.now c.root_refusal.new.blocks c.in-Err.why c.refusal_of.result c.refusal_of.ensures c.requires.may.begin.going c.in-Err.ensures.refused c.in-Err.ensures.looks
