-- What a call on one of a mirror's disks does to it. The disk is live until a call on it fails; the end is the moment of the mirror at which that was.
use Rattle.std.specs.Prelude.{◌≡◌, ℕ, ◌+◌, ◌<◌, Bool, true, false, IsTrue, if◌then◌else◌, List, [], ◌∷◌, ◌++◌, Option, Some, None}
use Rattle.disk_contract.specs.declared.event.Event.{Event}
use Rattle.disk_contract.specs.declared.event.Event.TheVariants.{Wrote, Lost, Noticed}
use Rattle.disk_contract.specs.Cell.{greatest_ticket, IsNoticed}
use Rattle.disk_contract.specs.Disk.{State, IsOpen, AddsNotices}
use Rattle.disk_mirror.specs.declared.entry.Written.{Written}
use Rattle.disk_mirror.specs.declared.entry.Written.TheVariants.{Given, Missed, Nothing}

-- where it isn't live, a call on it failed, and was counted
abbrev pub HasFailedOnce : Bool → State → Type 0
HasFailedOnce live s = live ≡ false → 0 < s.faults + s.read_faults

-- it stays as it was, or goes down at this moment of the mirror
abbrev pub end_at : ℕ → Bool → ℕ → ℕ
end_at moment live end = if live then moment else end

abbrev pub HalfReads : ℕ → Bool → Bool → Bool → ℕ → ℕ → Type 0
HalfReads moment true live now end later = (live ≡ true) × (now ≡ true) × (later ≡ end)
HalfReads moment false live now end later = (now ≡ false) × (later ≡ end_at moment live end)

-- a write: it was accepted; or the disk is down, and lost it where `Missed` says so
abbrev pub HalfWrites : Bool → ℕ → List ℕ → ℕ → Written → Bool → Bool → ℕ → ℕ → List Event → List Event → Type 0
HalfWrites tells b x moment (Given t) live now end later old new = (live ≡ true) × (now ≡ true) × (later ≡ end) × (IsTrue tells → (greatest_ticket old < t) × (¬ IsNoticed t old) × (new ≡ old ++ Wrote t b x ∷ []))
HalfWrites tells b x moment Missed live now end later old new = (live ≡ true) × (now ≡ false) × (later ≡ moment + 1) × (IsTrue tells → new ≡ old ++ Lost b x ∷ [])
HalfWrites tells b x moment Nothing live now end later old new = (now ≡ false) × (later ≡ end_at moment live end) × (IsTrue tells → new ≡ old)

-- a poll: it answered a ticket, whose notice came; or nothing came, and the disk may have gone down
abbrev pub HalfPolls : Bool → ℕ → Option ℕ → Bool → Bool → ℕ → ℕ → List Event → List Event → Type 0
HalfPolls tells moment (Some t) live now end later old new = (live ≡ true) × (now ≡ true) × (later ≡ end) × (IsTrue tells → IsOpen t old × (new ≡ old ++ Noticed t ∷ []))
HalfPolls tells moment None live now end later old new = (now ≡ true → (live ≡ true) × (later ≡ end)) × (now ≡ false → later ≡ end_at moment live end) × (IsTrue tells → new ≡ old)

-- a wait: it brought notices of open tickets alone, and where it was done, that of its own
abbrev pub HalfWaits : Bool → ℕ → ℕ → Bool → Bool → Bool → ℕ → ℕ → List Event → List Event → Type 0
HalfWaits tells moment t true live now end later old new = (live ≡ true) × (now ≡ true) × (later ≡ end) × (IsTrue tells → IsNoticed t new × AddsNotices old new)
HalfWaits tells moment t false live now end later old new = (now ≡ false) × (later ≡ end_at moment live end) × (IsTrue tells → AddsNotices old new) × (IsTrue tells → live ≡ false → new ≡ old)

-- the ticket that a disk gave to a write
abbrev pub given_in : Written → Option ℕ
given_in (Given t) = Some t
given_in Missed = None
given_in Nothing = None
