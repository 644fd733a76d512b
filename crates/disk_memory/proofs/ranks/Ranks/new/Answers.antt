use Rattle.std.proofs.Common.{◌≡◌, ◌*◌, ◌^◌, arith}
use Rattle.disk_memory.proofs.count_trees.Kept.{kept_new}
use Rattle.disk_memory.proofs.count_trees.Sums.{doubled_power}
use Rattle.disk_memory.proofs.ranks.Ranks.new.Goals as goal

pub invariant_of-result : goal.invariant_of-result
invariant_of-result c =
    let size = c.next_power_of_two-size.result in
    let power = c.next_power_of_two-size.ensures.power in
    let is : size ≡ 1 * 2 ^ power.0 = omega (arith, power.1) in
    kept_new _ _ _ power.0 (c.in_ok-counts.ensures.items_if_clones_equal (λ y e. e)) (doubled_power power.0 1 size is) c.next_power_of_two-size.ensures.lower_bound (omega (arith, c.ranges.most.fits))
