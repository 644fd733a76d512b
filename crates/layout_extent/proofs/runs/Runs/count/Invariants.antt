use Rattle.std.proofs.Common.{◌≡◌, ◌*◌, ◌≤◌, length, take}
use Rattle.base_types.specs.Runs.{run_places}
use Rattle.layout_extent.proofs.runs.Runs.count.Given as goal

-- the runs so far have so many numbers
abbrev pub invariant-loop-run : goal.invariant-loop-run
invariant-loop-run l = (l.total ≡ length (run_places (take l.run-index l.run-items))) × (l.total ≤ l.run-index * 1048576)
