use Rattle.std.proofs.Common.{◌≡◌, ◌+◌, ◌<◌, ◌≤◌, length, get_or, take, sym, subst, arith}
use Rattle.base_types.specs.Runs.{run_places}
use Rattle.layout_extent.specs.Runs.{LieBelow, most_blocks}
use Rattle.layout_extent.proofs.Places.{length_more}
use Rattle.layout_extent.proofs.runs.Runs.count.Goals as goal

pub loop-run-preserved : goal.loop-run-preserved
loop-run-preserved c =
    let rs = c.as_slice-run-items.result.now in
    let more : c.loop-run.run-index < length rs = omega (arith, c.loop-run-test.true, c.loop-run.auto.run-index-end) in
    let run = get_or rs c.loop-run.run-index (record { first = 0; count = 0 }) in
    let total : length (run_places (take (c.loop-run.run-index + 1) rs)) ≡ length (run_places (take c.loop-run.run-index rs)) + run.count =
    length_more rs c.loop-run.run-index (record { first = 0; count = 0 }) more in
    let below : run.first + run.count ≤ 1048576 =
    subst (LieBelow most_blocks) (sym c.as_slice-run-items.ensures.value) c.self.invariant.1 c.loop-run.run-index (record { first = 0; count = 0 }) more in
    (omega (arith, total, c.loop-run.invariant.0), omega (arith, below, c.loop-run.invariant.1))
