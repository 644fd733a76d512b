use Rattle.std.proofs.Common.{rules, arith}
use Rattle.disk_mirror.proofs.Ascending.{between_more, between_less}
use Rattle.disk_mirror.proofs.places.first_from.Goals as goal

pub loop-low-preserved-then-is_below : goal.loop-low-preserved-then-is_below
loop-low-preserved-then-is_below c = between_more _ _ _ _ _ _ (omega arith) (omega (arith, c.loop-low-test.true)) (search rules) c.loop-low.invariant

pub loop-low-preserved : goal.loop-low-preserved
loop-low-preserved c = between_less _ _ _ _ _ _ (omega arith) (omega (arith, c.loop-low-test.true)) (search rules) c.loop-low.invariant
