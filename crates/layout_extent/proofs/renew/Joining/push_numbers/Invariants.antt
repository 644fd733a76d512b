use Rattle.std.proofs.Common.{◌≤◌, ◌+◌, ◌++◌, ℕ, List, take}
use Rattle.layout_extent.specs.Renew.{IsJoined}
use Rattle.layout_extent.proofs.renew.Joining.push_numbers.Given as goal

-- the numbers so far came behind
abbrev pub invariant-loop-number : goal.invariant-loop-number
invariant-loop-number l =
    ((xs : List ℕ) → IsJoined l.fn.self xs → IsJoined l.self (xs ++ take l.number-index l.list)) × (l.self.runs ≤ l.fn.self.runs + l.number-index)
