use Rattle.std.proofs.Common.{arith}
use Rattle.lang_tree.proofs.basics.BelowPath.{below_longer, starts_below}
use Rattle.lang_tree.proofs.path.Path.is_below.Goals as goal

pub returns-then-len : goal.returns-then-len
returns-then-len c = grind (arith, c.args.self.now, c.args.top.now, below_longer)

pub returns : goal.returns
returns c = grind (arith, c.args.top.now, c.args.self.now, c.deref.result.now, c.starts_with.ensures.value, c.names.result.now, c.names.ensures, starts_below)
