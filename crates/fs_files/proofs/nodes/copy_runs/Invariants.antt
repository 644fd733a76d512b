use Rattle.std.proofs.Common.{◌≡◌, take}
use Rattle.fs_files.proofs.nodes.copy_runs.Given as goal

abbrev pub invariant-loop-run : goal.invariant-loop-run
invariant-loop-run l = l.runs ≡ take l.run-index l.list
