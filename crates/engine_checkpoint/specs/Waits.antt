-- What waits leave: tickets are noticed, and nothing else is new. It is described in docs/PIPELINE.md.
use Rattle.std.specs.Prelude.{◌≡◌, ◌⊎◌, ℕ, ◌≤◌, Bool, true, List, ◌++◌, drop, map, slice_get, Some, Result, OnOk}
use Rattle.disk_contract.specs.declared.event.Event.{Event}
use Rattle.disk_contract.specs.Cell.{notices, IsNoticed}
use Rattle.disk_contract.specs.Disk.{State, Spends}
use Rattle.crash_argument.specs.HomeTest.{is_one_of}
use Rattle.engine_notes.specs.declared.notes.Note.{Note}
use Rattle.engine_notes.specs.Notes.{Expected, is_expected, is_noticed, none_open, ticket_of}
use Rattle.engine_running.specs.declared.commit.Committed.{Committed}
use Rattle.engine_checkpoint.specs.declared.pipeline.Pipeline.{Pipeline}

-- No ticket is expected that wasn't, and of each that is expected still the same is known.
pub record ForgetsSome (old new : List Note) : Type 0 where
  pub expected : (u : ℕ) → is_expected u new ≡ true → is_expected u old ≡ true
  pub noticed : (u : ℕ) → is_expected u new ≡ true → is_noticed u new ≡ is_noticed u old

-- Each notice that came is of such a ticket, and where no call failed the notes know it.
pub record HearsOnly {A E : Type 0} (P : ℕ → Type 0) (result : Result A E) (old new : List Event) (notes : List Note) : Type 0 where
  pub only : (u : ℕ) → IsNoticed u new → IsNoticed u old ⊎ P u
  pub heard : OnOk result ((u : ℕ) → IsNoticed u new → IsNoticed u old ⊎ (is_noticed u notes ≡ true))

-- the ticket is one of a committed record up to this number
pub record IsOfRecord (v : Pipeline) (upto t : ℕ) : Type 0 where
  pub place : ℕ
  pub committed : Committed
  pub is : slice_get v.committed.items place ≡ Some committed
  pub within : committed.number ≤ upto
  pub own : is_one_of t committed.tickets.items ≡ true

-- the notes know each notice in the log that is of a ticket which they expect
abbrev pub HearsAll : List Event → Pipeline → Type 0
HearsAll log v = (t : ℕ) → is_expected t v.notes.notes ≡ true → IsNoticed t log → is_noticed t v.notes.notes ≡ true

-- where the disk's waits bring the notice of their own ticket alone: if the notes knew those notices before a call, they do after it
abbrev pub StaysHeard : State → State → Pipeline → Pipeline → Type 0
StaysHeard d e v w = d.manner.waits_alone ≡ true → HearsAll d.log v → HearsAll e.log w

-- some of the committed records, the oldest, aren't committed ones any more, and no other has come
pub record LosesCommitted (v w : Pipeline) : Type 0 where
  pub count : ℕ
  pub left : w.committed.items ≡ drop count v.committed.items

-- each ticket that is expected is noticed
abbrev pub AreAllNoticed : List Note → Type 0
AreAllNoticed notes = (u : ℕ) → is_expected u notes ≡ true → is_noticed u notes ≡ true

-- the same tickets, of which no fewer are noticed, and the same room
pub record HearsMore (old new : Expected) : Type 0 where
  pub tickets : map ticket_of new.notes ≡ map ticket_of old.notes
  pub room : new.room ≡ old.room
  pub noticed : (u : ℕ) → is_noticed u old.notes ≡ true → is_noticed u new.notes ≡ true

-- none of the tickets of the committed records up to this number is open
abbrev pub AreWaitedFor : ℕ → Pipeline → Type 0
AreWaitedFor upto v = (k : ℕ) (c : Committed) → slice_get v.committed.items k ≡ Some c → c.number ≤ upto → none_open c.tickets.items v.notes.notes ≡ true

-- the log has grown by durability notifications alone
pub record OnlyNotices (old new : List Event) : Type 0 where
  pub tickets : List ℕ
  pub log : new ≡ old ++ notices tickets

-- Some waits, which end at the first that fails, and neither polls nor reads. What is written isn't said here.
pub record WaitsSome (failed : Bool) (old new : State) : Type 0 where
  pub made : ℕ
  pub spends : Spends failed made 0 old new
