-- What a commit asks, and what it does and leaves.
use Rattle.std.specs.Prelude.{◌≡◌, ◌⊎◌, ℕ, Bool, ◌+◌, ◌<◌, ◌≤◌, IsTrue, List, [], length, map, slice_get, Some, Result, Ok, Err, IfOk, IfErr, vec_capacity}
use Rattle.base_types.specs.Seal.{Blocks}
use Rattle.disk_contract.specs.declared.event.Event.{Event}
use Rattle.disk_contract.specs.Disk.{State}
use Rattle.layout_journal.specs.Ring.{RingPlaces, with_places}
use Rattle.layout_journal.specs.Run.{places}
use Rattle.crash_argument.specs.Ledger.{Ledger, WrittenRecord}
use Rattle.crash_argument.specs.Steps.{NoneIsBeingWritten, with_record}
use Rattle.crash_argument.specs.Points.{MountedSession, IsSafe}
use Rattle.crash_argument.specs.PipelineData.{PipelineData, DataAgree, with_committed}
use Rattle.crash_argument.specs.OnePending.{HasOnePending, IsNotOnItsWay}
use Rattle.disk_contract.specs.Cell.{cell_of}
use Rattle.engine_running.specs.declared.put.Put.{Put}
use Rattle.crash_argument.specs.Recording.{IsInLedger}
use Rattle.engine_running.specs.declared.commit.Committed.{Committed}
use Rattle.engine_running.specs.declared.commit.CommitRoom.{CommitRoom}
use Rattle.engine_running.specs.Record.{record_of, written_of, block_of, AreBelow, IsTransaction}
use Rattle.engine_running.specs.Running.{Changes}
use Rattle.engine_running.specs.Writes.{AsksWrites, record_writes}
use Rattle.crash_argument.specs.Writes.{AddsWrites, AddsFront}

-- the ring places that the record of these changes takes
abbrev pub places_for : Changes → ℕ
places_for q = places (record_of 0 0 q.paid q.laid)

-- the writes of the record of these changes, in their order
abbrev pub writes_of : RingPlaces → ℕ → ℕ → Changes → List (ℕ × List ℕ)
writes_of ring epoch number q = record_writes ring.geom epoch number ring.next q.paid q.laid

-- After the calls that write a whole record: it is in the ledger, with its tickets. Where one failed, the record is there or not, and the disk is safe.
abbrev pub RecordLeaves : {A E : Type 0} → MountedSession → Ledger → PipelineData → WrittenRecord → Blocks → ℕ → ℕ → Result A E → List ℕ → Blocks → List Event → Type 0
RecordLeaves s l p w m t floor (Ok a) tickets base new = IsInLedger s base new l p w m t floor tickets
RecordLeaves s l p w m t floor (Err e) tickets base new = IsSafe s base new l t floor ⊎ IsSafe s base new (with_record l w m) t floor

-- After a commit: the record is in the ledger, with the tickets of the answer. Refused, it is there or not, and the disk is safe.
abbrev pub CommitLeaves : MountedSession → Ledger → PipelineData → WrittenRecord → Blocks → ℕ → ℕ → Result Committed Changes → Blocks → List Event → Type 0
CommitLeaves s l p w m t floor (Ok c) base new = IsInLedger s base new l p w m t floor c.tickets.items
CommitLeaves s l p w m t floor (Err e) base new = IsSafe s base new l t floor ⊎ IsSafe s base new (with_record l w m) t floor

-- What a commit adds to the log: all of these writes, with the tickets of the answer, or a front of them.
abbrev pub CommitAdds : List (ℕ × List ℕ) → Result Committed Changes → List Event → List Event → Type 0
CommitAdds ws (Ok c) old new = AddsWrites ws c.tickets.items old new
CommitAdds ws (Err r) old new = AddsFront ws old new

-- there is memory for a commit of this transaction: room for the tickets of its writes, of which there is none yet, and the numbers of its fresh blocks
pub record HasRoomForCommit (r : Changes) (room : CommitRoom) : Type 0 where
  pub tickets : length r.laid + places_for r ≤ vec_capacity room.tickets
  pub empty : room.tickets.items ≡ []
  pub fresh : room.fresh.items ≡ map block_of r.laid

-- what a committed transaction keeps of the running one
pub record IsCommitOf (r : Changes) (n p : ℕ) (c : Committed) : Type 0 where
  pub number : c.number ≡ n
  pub place : c.place ≡ p
  pub count : c.count ≡ places (record_of n p r.paid r.laid)
  pub payloads : c.payloads.items ≡ r.paid
  pub fresh : c.fresh.items ≡ map block_of r.laid
  pub freed : c.freed.items ≡ r.freed
  pub tickets : length c.tickets.items ≡ length r.laid + places (record_of n p r.paid r.laid)

-- No block has two writes pending after a commit: the record joins the ledger, and nothing is under way; or a write of it failed, or nothing was written.
abbrev pub CommitKeepsOne : Ledger → PipelineData → WrittenRecord → Blocks → Result Committed Changes → Blocks → List Event → Type 0
CommitKeepsOne l p w m (Ok c) base new = (freed : List ℕ) → HasOnePending base new (with_record l w m) (with_committed p l w c.tickets.items freed) []
CommitKeepsOne l p w m (Err e) base new = (b : ℕ) → length (cell_of base new b).pending ≤ 1

-- no checkpoint write to one of these blocks is open
abbrev pub AreNotOnTheirWay : List Event → PipelineData → List Put → Type 0
AreNotOnTheirWay log p laid = (i : ℕ) (q : Put) → slice_get laid i ≡ Some q → IsNotOnItsWay log p q.block

-- On a disk of so many blocks there is all that a commit of these changes needs.
pub record HasAllFor (blocks : ℕ) (q : Changes) (memory : CommitRoom) (ring : RingPlaces) : Type 0 where
  -- a payload, since a record has one
  pub some : 0 < length q.paid
  -- memory
  pub room : HasRoomForCommit q memory
  -- the ring of this disk
  pub on_disk : blocks ≡ ring.geom.n
  -- and free places in it
  pub free : ring.taken + places_for q ≤ ring.geom.j

-- These changes may be committed on a disk of so many blocks.
pub record MayBeCommitted (blocks : ℕ) (q : Changes) (memory : CommitRoom) (ring : RingPlaces) : Type 0 where
  -- there is all that the commit needs
  pub has : HasAllFor blocks q memory ring
  -- a record can count its blocks
  pub small : length q.paid + length q.laid ≤ 2097152
  -- and its fresh blocks are of the disk
  pub below : AreBelow blocks q.laid

-- The record of these changes was issued whole, or, where the call was refused, in part.
pub record Issues {A E : Type 0} (tells : Bool) (result : Result A E) (q : Changes) (before after : RingPlaces) (old new : State) : Type 0 where
  -- its ring places are taken in either case
  pub ring : after ≡ with_places before (places_for q)
  -- and the disk was asked for writes alone
  pub asks : AsksWrites tells result old new

-- What the commit of these changes as the record of this number does, where the ring was `before`.
pub record Commits (tells : Bool) (q : Changes) (epoch number : ℕ) (result : Result Committed Changes) (before after : RingPlaces) (old new : State) : Type 0 where
  -- its record is issued, whole or in part
  pub issues : Issues tells result q before after old new
  -- where the changes may be the next record by a ledger, the record joins the ledger, and refused, the disk is safe with it or without it
  pub leaves : IsTrue tells → (s : MountedSession) (l : Ledger) (p : PipelineData) (m : Blocks) (t floor : ℕ) → before.geom ≡ l.geom → IsTransaction l epoch number before.next q.paid q.laid m → NoneIsBeingWritten (cell_of old.base old.log) l
      → DataAgree old.base old.log l p → IsSafe s old.base old.log l t floor → CommitLeaves s l p (written_of epoch number before.next q.paid q.laid) m t floor result new.base new.log
  -- its writes are all that comes to the log, or a front of them
  pub log : IsTrue tells → CommitAdds (writes_of before epoch number q) result old.log new.log
  -- no block has two writes pending then, where none had, and no checkpoint write to one of its fresh blocks was open
  pub one : IsTrue tells → (s : MountedSession) (l : Ledger) (p : PipelineData) (m : Blocks) (t floor : ℕ) → before.geom ≡ l.geom → IsTransaction l epoch number before.next q.paid q.laid m
      → DataAgree old.base old.log l p → IsSafe s old.base old.log l t floor → HasOnePending old.base old.log l p [] → AreNotOnTheirWay old.log p q.laid → CommitKeepsOne l p (written_of epoch number before.next q.paid q.laid) m result new.base new.log
  -- the committed transaction has what the running one had
  pub made : IfOk result (IsCommitOf q number before.next)
  -- and refused, that one comes back
  pub back : IfErr result (λ running. running ≡ q)
