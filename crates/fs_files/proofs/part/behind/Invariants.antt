use Rattle.std.proofs.Common.{◌≡◌, ◌≤◌, ◌++◌, length, drop}
use Rattle.fs_files.proofs.Behind.{behind_runs}
use Rattle.fs_files.proofs.part.behind.Given as goal

-- what is behind, and what the rest gives, make the whole
abbrev pub invariant-loop-run : goal.invariant-loop-run
invariant-loop-run l = (l.rest ++ behind_runs l.left (drop l.run-index l.run-items) ≡ behind_runs l.count l.run-items) × (length l.rest ≤ l.run-index)
