-- How many writes a session makes: five numbers whose sum stays within what the sync points account for.
use Rattle.std.specs.Prelude.{◌≡◌, ◌⊎◌, ℕ, ◌+◌, ◌-◌, ◌*◌, ◌<◌, ◌≤◌, List, [], ◌∷◌, length, take, drop}
use Rattle.disk_contract.specs.declared.event.Event.{Event}
use Rattle.disk_contract.specs.Disk.{writes_in}

-- the numbers of a session: its writes so far; the writes of the commit under way that are still to come; the payloads that aren't at their blocks; the last record's number; `sure` and `start` of the header that was written last; and what the points account for
pub record WriteCounts : Type 0 where
  pub writes : ℕ
  pub coming : ℕ
  pub away : ℕ
  pub last : ℕ
  pub sure : ℕ
  pub start : ℕ
  pub sum : ℕ

-- the number of writes is that of the log since the mount, which ended after so many events
abbrev pub AreCounted : ℕ → List Event → WriteCounts → Type 0
AreCounted mounted log c = c.writes ≡ writes_in (drop mounted log)

-- at each moment from the mount on, the writes since it number at most this
pub record AreAtMost (mounted : ℕ) (log : List Event) (most : ℕ) : Type 0 where
  pub each : (k : ℕ) → mounted ≤ k → k ≤ length log → writes_in (drop mounted (take k log)) ≤ most

-- the writes are within what the points account for
pub record AreWithinSum (c : WriteCounts) : Type 0 where
  pub sure : c.sure ≤ c.last
  pub start : c.start ≤ c.last + 1
  pub bound : c.writes + c.coming + c.away + (c.last - c.sure) + (c.last + 1 - c.start) ≤ c.sum

-- as a mount ends, whose last record has this number
abbrev pub counts_at_mount : ℕ → WriteCounts
counts_at_mount last = record { writes = 0; coming = 0; away = 0; last = last; sure = last; start = last + 1; sum = 0 }

-- what a record of m payloads, n fresh blocks and d descriptors accounts for: its own writes, one for each payload's block, and two headers
abbrev pub share : ℕ → ℕ → ℕ → ℕ
share m n d = 2 * m + n + d + 3

-- a commit begins
abbrev pub with_point : WriteCounts → ℕ → ℕ → ℕ → WriteCounts
with_point c m n d = record c { coming = n + d + m + 1; away = c.away + m; last = c.last + 1; sum = c.sum + share m n d }

-- a write of the commit, accepted or lost
abbrev pub with_part : WriteCounts → WriteCounts
with_part c = record c { writes = c.writes + 1; coming = c.coming - 1 }

-- a checkpoint write of a block for which so many payloads were away
abbrev pub with_home_write : WriteCounts → ℕ → WriteCounts
with_home_write c count = record c { writes = c.writes + 1; away = c.away - count }

-- so many payloads that need no checkpoint write
abbrev pub without_payloads : WriteCounts → ℕ → WriteCounts
without_payloads c count = record c { away = c.away - count }

-- a header
abbrev pub with_header_write : WriteCounts → ℕ → ℕ → WriteCounts
with_header_write c sure start = record c { writes = c.writes + 1; sure = sure; start = start }

-- a header moves one of its two numbers on, and neither back
pub record MovesOn (c : WriteCounts) (sure start : ℕ) : Type 0 where
  pub sure_from : c.sure ≤ sure
  pub sure_upto : sure ≤ c.last
  pub start_from : c.start ≤ start
  pub start_upto : start ≤ c.last + 1
  pub one : (c.sure < sure) ⊎ (c.start < start)
