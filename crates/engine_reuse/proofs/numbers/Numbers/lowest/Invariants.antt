use Rattle.std.proofs.Common.{◌≡◌, ◌≤◌, ◌-◌, vec_len, vec_capacity}
use Rattle.engine_reuse.proofs.Members.{AreFound}
use Rattle.engine_reuse.proofs.numbers.Numbers.lowest.Given as goal

-- all members before this number are found, and no more than are asked for
abbrev pub invariant-loop-self : goal.invariant-loop-self
invariant-loop-self l = AreFound l.self-inside.words.items l.found.items l.from × (vec_len l.found ≤ l.count) × (vec_capacity l.found ≡ l.count)

-- so many are still to be found
abbrev pub decreases-loop-self : goal.decreases-loop-self
decreases-loop-self l = l.count - vec_len l.found
