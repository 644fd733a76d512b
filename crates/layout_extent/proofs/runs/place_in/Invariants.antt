use Rattle.std.proofs.Common.{◌≡◌, drop, slice_get}
use Rattle.base_types.specs.Runs.{run_places}
use Rattle.layout_extent.proofs.runs.place_in.Given as goal

-- what is sought stands so far behind the runs so far
abbrev pub invariant-loop-run : goal.invariant-loop-run
invariant-loop-run l = slice_get (run_places (drop l.run-index l.runs)) l.left ≡ slice_get (run_places l.runs) l.place
