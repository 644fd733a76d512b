use Rattle.std.proofs.Common.{rules, arith}
use Rattle.disk_mirror.proofs.Trees.{change_leaf, change_up, change_end}
use Rattle.disk_mirror.proofs.ripe.set_leaf.Goals as goal

pub loop-place-init : goal.loop-place-init
loop-place-init c = change_leaf _ _ _ _ c.requires.twice c.requires.leaf c.requires.joins

pub loop-place-preserved : goal.loop-place-preserved
loop-place-preserved c = change_up _ _ _ _ _ _ _ c.loop-place-test.true (search rules) c.loop-place.invariant

pub returns-clause-joins : goal.returns-clause-joins
returns-clause-joins c = change_end _ _ _ _ _ _ (omega (arith, c.loop-place-test.false)) c.loop-place.invariant
