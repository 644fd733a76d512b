-- A record that is being written: what has to hold as it begins, and what is issued of it so far.
use Rattle.std.specs.Prelude.{◌≡◌, ◌⊎◌, ℕ, ◌+◌, ◌<◌, ◌≤◌, false, IsTrue, List, [], ◌∷◌, ◌++◌, slice_get, Some, None, Result, Ok, Err}
use Rattle.base_types.specs.Seal.{Blocks}
use Rattle.disk_contract.specs.declared.event.Event.{Event}
use Rattle.disk_contract.specs.Cell.{cell_of}
use Rattle.disk_contract.specs.Disk.{State}
use Rattle.layout_geometry.specs.Geometry.{ring_block}
use Rattle.layout_journal.specs.declared.header.Header.{Header}
use Rattle.layout_journal.specs.declared.entry.Entry.{Entry}
use Rattle.layout_journal.specs.Run.{place_after, places, all_places, names_block, is_live}
use Rattle.crash_argument.specs.Ledger.{Ledger, WrittenRecord, block_at, IsSpelled, IsStanding, next_number, all_say, payload_in}
use Rattle.crash_argument.specs.Steps.{IsBeingWritten, NoneIsBeingWritten, with_record}
use Rattle.crash_argument.specs.Points.{MountedSession, IsSafe, IsSafeOn}
use Rattle.crash_argument.specs.PipelineData.{PipelineData, DataAgree, AreFreed, with_committed}
use Rattle.crash_argument.specs.LastWrites.{IsLastWrite, HasTickets, IsDead, FreshAreNew, is_among}

-- the last write to the block has these bytes and one of these tickets
abbrev pub IsAmongLast : List Event → List ℕ → ℕ → List ℕ → Type 0
IsAmongLast log tickets b x = (t : ℕ) × IsTrue (is_among tickets t) × IsLastWrite log b t x

-- The record may follow those of the ledger, and m is the map after it. Nothing here speaks of the disk.
pub record IsNextRecord (l : Ledger) (w : WrittenRecord) (m : Blocks) : Type 0 where
  pub number : w.says.number ≡ next_number l
  pub not_closed : (h : Header) → IsStanding l h → h.closed ≡ false
  pub place : w.says.place ≡ place_after l.geom.j l.header.at (all_say l.records)
  pub within : all_places (all_say l.records) + places w.says ≤ l.geom.j
  pub spelled : IsSpelled l.geom l.epoch w
  -- its fresh blocks are dead before it and live after it
  pub dead : (i : ℕ) (e : Entry) → slice_get w.says.fresh i ≡ Some e → IsDead l e.block
  pub live : (i : ℕ) (e : Entry) → slice_get w.says.fresh i ≡ Some e → IsTrue (is_live l.geom m e.block)
  -- m is the map before it, with its payloads, whose blocks are live, and its fresh blocks
  pub paid : (b : ℕ) (y : List ℕ) → payload_in w b ≡ Some y → m b ≡ y
  pub paid_live : (b : ℕ) (y : List ℕ) → payload_in w b ≡ Some y → IsTrue (is_live l.geom m b)
  pub laid : (i : ℕ) (e : Entry) → slice_get w.says.fresh i ≡ Some e → m e.block ≡ block_at w.fresh i
  pub same : (b : ℕ) → payload_in w b ≡ None → names_block w.says.fresh b ≡ false → IsTrue (is_live l.geom m b) → IsTrue (is_live l.geom (l.map_before (next_number l)) b) × (m b ≡ l.map_before (next_number l) b)

-- So many of its fresh blocks, and of its ring places all but the first below this one, are issued with these tickets.
pub record IsPartlyWritten (base : Blocks) (log : List Event) (l : Ledger) (p : PipelineData) (w : WrittenRecord) (tickets : List ℕ) (laid issued : ℕ) : Type 0 where
  pub fresh : (i : ℕ) (e : Entry) → i < laid → slice_get w.says.fresh i ≡ Some e → IsAmongLast log tickets e.block (block_at w.fresh i)
  pub ring : (i : ℕ) → 0 < i → i < issued → IsAmongLast log tickets (ring_block l.geom (w.says.place + i)) (block_at w.ring i)
  pub writing : IsBeingWritten (cell_of base log) l w
  -- all that the session's data say holds on
  pub knows : DataAgree base log l p

-- the same of what is known of a disk
abbrev pub IsPartlyOn : State → Ledger → PipelineData → WrittenRecord → List ℕ → ℕ → ℕ → Type 0
IsPartlyOn d l p w tickets laid issued = IsPartlyWritten d.base d.log l p w tickets laid issued

-- what is known once a call has written one block more of the record
abbrev pub PartWritten : {E : Type 0} → MountedSession → Ledger → PipelineData → WrittenRecord → ℕ → ℕ → List ℕ → ℕ → ℕ → Result ℕ E → State → Type 0
PartWritten s l p w t floor tickets laid issued (Ok ticket) new = IsSafeOn s new l t floor × IsPartlyOn new l p w (tickets ++ ticket ∷ []) laid issued
PartWritten s l p w t floor tickets laid issued (Err e) new = IsSafeOn s new l t floor

-- and once the commit block was written: the record is in the ledger, with its tickets, and none is being written
pub record IsInLedger (s : MountedSession) (base : Blocks) (log : List Event) (l : Ledger) (p : PipelineData) (w : WrittenRecord) (m : Blocks) (t floor : ℕ) (tickets : List ℕ) : Type 0 where
  pub safe : IsSafe s base log (with_record l w m) t floor
  pub own : HasTickets log (with_record l w m) w tickets
  pub idle : NoneIsBeingWritten (cell_of base log) (with_record l w m)
  pub new : FreshAreNew (with_record l w m)
  pub joined : (freed : List ℕ) → AreFreed l w m freed → DataAgree base log (with_record l w m) (with_committed p l w tickets freed)

-- after the call for the commit block: the record is in the ledger, or the disk is safe all the same, with the record or without it
abbrev pub RecordWritten : {E : Type 0} → MountedSession → Ledger → PipelineData → WrittenRecord → Blocks → ℕ → ℕ → List ℕ → Result ℕ E → State → State → Type 0
RecordWritten s l p w m t floor tickets (Ok ticket) old new = IsInLedger s new.base new.log l p w m t floor (tickets ++ ticket ∷ [])
RecordWritten s l p w m t floor tickets (Err e) old new = ((new.log ≡ old.log) × IsSafeOn s new l t floor) ⊎ IsSafeOn s new (with_record l w m) t floor
