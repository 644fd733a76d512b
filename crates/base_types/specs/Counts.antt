-- Counts of calls and of failed calls, of 64 bits each, and what a call does to its count of failures.
-- Sources, sinks and disks count by these.
use Rattle.std.specs.Prelude.{◌≡◌, ℕ, zero, suc, ◌+◌, ◌-◌, ◌^◌, ◌≤◌, min, Bool, if◌then◌else◌, Result, is_err}

-- one more, up to the last value of a count
abbrev pub next_count : ℕ → ℕ
next_count n = min (n + 1) (2 ^ 64 - 1)

-- so many calls more
abbrev pub after_calls : ℕ → ℕ → ℕ
after_calls zero n = n
after_calls (suc k) n = next_count (after_calls k n)

-- the count rose, or is at its last value, from which it can't rise
abbrev pub Rose : ℕ → ℕ → Type 0
Rose before now = next_count before ≤ now

-- a count of failures after a call: a call that failed is counted once, and another isn't
abbrev pub after_call : Bool → ℕ → ℕ
after_call failed n = if failed then next_count n else n

-- the count never falls, and a call fails exactly where it was counted, once
abbrev pub HasCause : {T E : Type 0} → Result T E → ℕ → ℕ → Type 0
HasCause result before now = (before ≤ now) × (now ≡ after_call (is_err result) before)
