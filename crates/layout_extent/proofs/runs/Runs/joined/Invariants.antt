use Rattle.std.proofs.Common.{◌≡◌, ◌≤◌, ◌+◌, ◌++◌, take}
use Rattle.layout_extent.specs.Runs.{stretches}
use Rattle.layout_extent.specs.Next.{next_number}
use Rattle.layout_extent.proofs.runs.Runs.joined.Given as goal

-- the stretches with the numbers so far, and the number that would go on
abbrev pub invariant-loop-number : goal.invariant-loop-number
invariant-loop-number l =
    (l.runs ≡ stretches (l.self ++ take l.number-index l.list)) × (l.next ≡ next_number (l.self ++ take l.number-index l.list)) × (l.runs ≤ 60 + l.number-index)
