-- What the pipeline's calls make of it, in terms of its own lists: a commit joins, the oldest record becomes durable, notices are taken. It is described in docs/PIPELINE.md.
use Rattle.std.specs.Prelude.{◌≡◌, ◌⊎◌, ℕ, ◌+◌, ◌-◌, ◌≤◌, min, max, ◌||◌, ◌&&◌, Bool, true, false, IsTrue, List, [], ◌∷◌, ◌++◌, length, drop, Option, Some, None, Result, Ok, Err, OnOk, is_ok}
use Rattle.base_types.specs.Seal.{Blocks}
use Rattle.disk_contract.specs.declared.event.Event.{Event}
use Rattle.disk_contract.specs.Cell.{notices}
use Rattle.base_types.specs.Counts.{after_calls}
use Rattle.disk_contract.specs.Disk.{State, Spends}
use Rattle.disk_contract.specs.Manner.{Polled, after_polls}
use Rattle.layout_geometry.specs.Geometry.{Geometry}
use Rattle.layout_journal.specs.declared.header.Header.{Header}
use Rattle.layout_journal.specs.Ring.{RingPlaces}
use Rattle.crash_argument.specs.Ledger.{Ledger, WrittenRecord}
use Rattle.crash_argument.specs.Steps.{with_record}
use Rattle.crash_argument.specs.HomeTest.{is_one_of}
use Rattle.crash_argument.specs.Points.{MountedSession, IsSafe}
use Rattle.engine_notes.specs.declared.notes.Note.{Note}
use Rattle.engine_notes.specs.Notes.{is_expected, is_noticed, none_open}
use Rattle.engine_running.specs.declared.commit.Committed.{Committed}
use Rattle.engine_running.specs.declared.states.Durable.{Durable}
use Rattle.engine_running.specs.States.{IsDurableOf, Forgets}
use Rattle.engine_checkpoint.specs.declared.pipeline.Pipeline.{Pipeline}
use Rattle.engine_checkpoint.specs.declared.pipeline.Ready.{Ready}
use Rattle.engine_checkpoint.specs.Newest.{spot_of, spot_after}
use Rattle.engine_checkpoint.specs.Agree.{PipelineAgrees}
use Rattle.engine_checkpoint.specs.Kept.{kept}
use Rattle.engine_checkpoint.specs.Waits.{ForgetsSome}

-- the notes once these notices are taken: nothing more is expected, and those of them that were expected are noticed
pub record TakesAll (tickets : List ℕ) (old new : List Note) : Type 0 where
  pub expected : (u : ℕ) → is_expected u new ≡ is_expected u old
  pub noticed : (u : ℕ) → is_noticed u new ≡ (is_noticed u old || (is_one_of u tickets && is_expected u old))

-- what one poll gave: its notice is in the log and taken by the notes, or there was none
abbrev pub TakesOne : {E : Type 0} → Result Bool E → Pipeline → Pipeline → List Event → List Event → Type 0
TakesOne (Ok true) v w old new = (t : ℕ) × (new ≡ old ++ notices (t ∷ [])) × TakesAll (t ∷ []) v.notes.notes w.notes.notes
TakesOne (Ok false) v w old new = (new ≡ old) × (w ≡ v)
TakesOne (Err e) v w old new = (new ≡ old) × (w ≡ v)

-- what polls in a row spend, so many at most
pub record PollsUpTo (failed : Bool) (most : ℕ) (old new : State) : Type 0 where
  pub asked : ℕ
  pub upto : asked ≤ most
  pub spends : Spends failed 0 asked old new

-- Polls for notices, 64 at most: each notice is taken by the notes, and where no poll failed the last one gave none, or was the 64th.
pub record TakesNotices {A E : Type 0} (result : Result A E) (v w : Pipeline) (old new : State) : Type 0 where
  pub tickets : List ℕ
  pub log : new.log ≡ old.log ++ notices tickets
  pub notes : TakesAll tickets v.notes.notes w.notes.notes
  pub polls : OnOk result (new.polls ≡ after_calls (min 64 (length tickets + 1)) old.polls)

-- where it was known what the poll answers, it gave this: a ticket, whose notice is in the log, or none
abbrev pub TakesAnswer : {E : Type 0} → Option (Option ℕ) → Result Bool E → List Event → List Event → Type 0
TakesAnswer None r old new = Unit {0}
TakesAnswer (Some None) r old new = (r ≡ Ok false) × (new ≡ old)
TakesAnswer (Some (Some t)) r old new = (r ≡ Ok true) × (new ≡ old ++ notices (t ∷ []))

-- no poll failed, and polls and log are these
pub record HasPolled {A E : Type 0} (r : Result A E) (new : State) (p : Polled) : Type 0 where
  pub done : IsTrue (is_ok r)
  pub polls : new.polls ≡ p.polls
  pub log : new.log ≡ p.log

-- where it was known what 64 polls answer, none of them failed, and polls and log are those after them
abbrev pub TakesKnown : {A E : Type 0} → Result A E → State → State → Type 0
TakesKnown r old new = (p : Polled) → after_polls old.manner 64 old.polls old.log ≡ Some p → HasPolled r new p

-- there is a committed record, and none of the oldest one's tickets is open
abbrev pub is_first_settled : List Committed → List Note → Bool
is_first_settled [] notes = false
is_first_settled (c ∷ cs) notes = none_open c.tickets.items notes

-- the oldest committed record has become the last durable one, its tickets have left the notes, and nothing else has changed
pub record SettlesFirst (v w : Pipeline) : Type 0 where
  pub first : Committed
  pub settled : Durable
  pub was : v.committed.items ≡ first ∷ w.committed.items
  pub keeps : IsDurableOf first settled
  pub durable : w.durable.items ≡ v.durable.items ++ settled ∷ []
  pub forgets : Forgets first.tickets.items v.notes w.notes
  pub rest : w ≡ record v { committed = w.committed; durable = w.durable; notes = w.notes }

-- or nothing has changed at all
abbrev pub SettlesOrStays : Bool → Pipeline → Pipeline → Type 0
SettlesOrStays true v w = SettlesFirst v w
SettlesOrStays false v w = w ≡ v

-- So many of the committed records, from the oldest on, have become durable and their tickets have left the notes; the records are the same, and nothing else has changed.
pub record SettlesSome (count : ℕ) (v w : Pipeline) : Type 0 where
  pub kept : kept w ≡ kept v
  pub committed : w.committed.items ≡ drop count v.committed.items
  pub durable : length w.durable.items ≡ length v.durable.items + count
  pub forgets : ForgetsSome v.notes.notes w.notes.notes
  pub rest : w ≡ record v { committed = w.committed; durable = w.durable; notes = w.notes }

-- what is ready still once this record has taken its part
abbrev pub ready_after : Committed → Ready → Ready
ready_after c r = record { records = r.records - 1; writes = r.writes - length c.tickets.items; payloads = r.payloads - length c.payloads.items }

-- The record has become the last committed one, and each of its tickets is expected. The index has its payloads, the counts have it, what was made ready for it is used up, and nothing else has changed.
pub record Accepts (c : Committed) (v w : Pipeline) : Type 0 where
  pub committed : w.committed.items ≡ v.committed.items ++ c ∷ []
  pub expected : (u : ℕ) → is_expected u w.notes.notes ≡ (is_one_of u c.tickets.items || is_expected u v.notes.notes)
  pub noticed : (u : ℕ) → is_noticed u w.notes.notes ≡ is_noticed u v.notes.notes
  pub newest : (b : ℕ) → spot_of w.newest b ≡ spot_after (spot_of v.newest b) c.number c.payloads.items c.fresh.items c.freed.items b
  pub rest : w ≡ record v { committed = w.committed; notes = w.notes; last = c.number; unplaced = v.unplaced + length c.payloads.items; newest = w.newest; ready = ready_after c v.ready }

-- After a commit that goes into the pipeline: the disk is safe with the record, and the pipeline agrees. Refused, the record is in the ledger or isn't, and the disk is safe.
abbrev pub CommitNextLeaves : {A E : Type 0} → MountedSession → Ledger → WrittenRecord → Blocks → ℕ → ℕ → Result A E → Blocks → List Event → Pipeline → RingPlaces → List (ℕ × ℕ) → Type 0
CommitNextLeaves s l w m t floor (Ok a) base new v ring waiting = IsSafe s base new (with_record l w m) t floor × PipelineAgrees base new (with_record l w m) v ring waiting []
CommitNextLeaves s l w m t floor (Err e) base new v ring waiting = IsSafe s base new l t floor ⊎ IsSafe s base new (with_record l w m) t floor

-- there is no record: the header, which is in this slot, releases all, and nothing is made ready
pub record HasNoRecord (g : Geometry) (h : Header) (slot : ℕ) (v : Pipeline) : Type 0 where
  pub geom : v.geom ≡ g
  pub header : v.header ≡ h
  pub slot_is : v.slot ≡ slot
  pub next : v.next ≡ None
  pub written : v.written ≡ h
  pub notes : v.notes.notes ≡ []
  pub placed : v.placed.items ≡ []
  pub sure : v.sure.items ≡ []
  pub durable : v.durable.items ≡ []
  pub committed : v.committed.items ≡ []
  pub last : v.last ≡ h.sure
  pub batch : v.batch ≡ 0
  pub home : v.home.items ≡ []
  pub unplaced : v.unplaced ≡ 0
  pub newest : (b : ℕ) → spot_of v.newest b ≡ None
  pub ready : v.ready ≡ record { records = 0; writes = 0; payloads = 0 }

-- Which records there are and what is known of them is as before. For how much more there is room, and what is made ready, may differ.
pub record SamePipeline (v w : Pipeline) : Type 0 where
  pub placed : w.placed.items ≡ v.placed.items
  pub sure : w.sure.items ≡ v.sure.items
  pub durable : w.durable.items ≡ v.durable.items
  pub committed : w.committed.items ≡ v.committed.items
  pub home : w.home.items ≡ v.home.items
  pub notes : w.notes.notes ≡ v.notes.notes
  pub newest : (b : ℕ) → spot_of w.newest b ≡ spot_of v.newest b
  pub rest : w ≡ record v { placed = w.placed; sure = w.sure; durable = w.durable; committed = w.committed; home = w.home; blocks = w.blocks; notes = w.notes; newest = w.newest; batch_newest = w.batch_newest; ready = w.ready }

-- what is ready once a record of so many writes and payloads is made ready: of each the greater number
abbrev pub ready_upto : ℕ → ℕ → Ready → Ready
ready_upto writes payloads r = record { records = max r.records 1; writes = max r.writes writes; payloads = max r.payloads payloads }
