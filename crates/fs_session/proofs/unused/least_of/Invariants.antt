use Rattle.std.proofs.Common.{◌≡◌, ◌==◌, ◌≤◌, ◌<◌, ℕ, false, length, take}
use Rattle.std.specs.List.{list_any}
use Rattle.fs_session.proofs.unused.least_of.Given as goal

-- none of the numbers so far is below the least
abbrev pub invariant-loop-number : goal.invariant-loop-number
invariant-loop-number l = (l.number-index ≤ length l.numbers) × (l.least ≤ l.most) × ((k : ℕ) → k < l.least → list_any (λ n. n == k) (take l.number-index l.numbers) ≡ false)
