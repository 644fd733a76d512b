use Rattle.std.proofs.Common.{rules}
use Rattle.disk_mirror.proofs.Trees.{way_root, way_left, way_right, way_end, none_at_all}
use Rattle.disk_mirror.proofs.ripe.first_ripe.Goals as goal

pub returns-then-not-is_ripe-clause-none : goal.returns-then-not-is_ripe-clause-none
returns-then-not-is_ripe-clause-none c = λ e i low. none_at_all _ _ _ _ c.requires.joins c.requires.power.0 c.requires.power.1 (search rules) i low

pub loop-place-init : goal.loop-place-init
loop-place-init c = way_root _ _ _ _ c.requires.joins c.requires.power.0 c.requires.power.1 (search rules)

pub loop-place-preserved-then-is_ripe : goal.loop-place-preserved-then-is_ripe
loop-place-preserved-then-is_ripe c = way_left _ _ _ _ c.requires.joins _ c.loop-place-test.true (search rules) c.loop-place.invariant

pub loop-place-preserved : goal.loop-place-preserved
loop-place-preserved c = way_right _ _ _ _ c.requires.joins _ c.loop-place-test.true (search rules) c.loop-place.invariant

pub returns-clause-some : goal.returns-clause-some
returns-clause-some c = way_end _ _ _ _ c.requires.joins _ c.loop-place-test.false c.loop-place.invariant
