use Rattle.std.proofs.Common.{◌≡◌, ℕ, ◌-◌, ◌*◌, ◌<◌, ◌≤◌, false, length}
use Rattle.engine_reuse.specs.Words.{has_bit}
use Rattle.engine_reuse.proofs.words.next_set.Given as goal

-- no bit before this one is set
abbrev pub invariant-loop-at : goal.invariant-loop-at
invariant-loop-at l = (l.from ≤ l.at) × ((c : ℕ) → l.from ≤ c → c < l.at → has_bit l.words c ≡ false)

-- so many bits are left
abbrev pub decreases-loop-at : goal.decreases-loop-at
decreases-loop-at l = 64 * length l.words - l.at
