use Rattle.std.proofs.Common.{◌∙◌}
use Rattle.lang_tree.proofs.blocks.Touching.{met_by_division}
use Rattle.lang_tree.proofs.sizes.blocks_met.Goals as goal

pub returns-clause-value : goal.returns-clause-value
returns-clause-value c = (cc) ∙ met_by_division c.args.size c.args.lo c.args.hi
