use Rattle.std.proofs.Common.{◌≡◌, ℕ, ◌≤◌, ◌-◌, true}
use Rattle.disk_file.specs.Notices.{is_over, StaysOver}
use Rattle.disk_file.proofs.notices.Notices.next.Given as goal

-- the same tickets are over as at first, and all up to the number were
abbrev pub invariant-loop-self : goal.invariant-loop-self
invariant-loop-self l = StaysOver l.fn.self l.self × StaysOver l.self l.fn.self × ((t : ℕ) → t ≤ l.self.upto → is_over t l.fn.self ≡ true)

abbrev pub decreases-loop-self : goal.decreases-loop-self
decreases-loop-self l = l.synced - l.self.upto
