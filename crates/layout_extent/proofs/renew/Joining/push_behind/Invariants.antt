use Rattle.std.proofs.Common.{◌≡◌, ◌≤◌, ◌+◌, ◌++◌, ℕ, List, drop}
use Rattle.base_types.specs.Runs.{run_places}
use Rattle.layout_extent.specs.Renew.{IsJoined}
use Rattle.layout_extent.proofs.renew.Joining.push_behind.Given as goal

-- what came so far, and what is left, make the whole
abbrev pub invariant-loop-run : goal.invariant-loop-run
invariant-loop-run l =
    ((xs : List ℕ) → IsJoined l.fn.self xs → (ys : List ℕ) × IsJoined l.self ys
    × (ys ++ drop l.left (run_places (drop l.run-index l.runs)) ≡ xs ++ drop l.skipped (run_places l.runs)))
    × (l.self.runs ≤ l.fn.self.runs + l.run-index)
