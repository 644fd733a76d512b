use Rattle.std.proofs.Common.{◌≡◌, ◌++◌, take}
use Rattle.layout_extent.proofs.runs.Runs.append.Given as goal

-- the numbers so far are at the end
abbrev pub invariant-loop-number : goal.invariant-loop-number
invariant-loop-number l = l.self ≡ l.fn.self ++ take l.number-index l.list
