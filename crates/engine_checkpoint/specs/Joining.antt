-- How a record joins the pipeline: what a commit as the next record asks and does, and what its end does, the record's joining. It is described in docs/PIPELINE.md.
use Rattle.std.specs.Prelude.{◌≡◌, ℕ, ◌+◌, ◌<◌, ◌≤◌, Bool, IsTrue, List, [], ◌∷◌, ◌++◌, length, map, Result, OnOk, IfErr, OnErr}
use Rattle.base_types.specs.Seal.{Blocks}
use Rattle.disk_contract.specs.declared.event.Event.{Event}
use Rattle.disk_contract.specs.Cell.{IsNoticed}
use Rattle.disk_contract.specs.Disk.{State}
use Rattle.layout_journal.specs.Ring.{RingPlaces, with_places}
use Rattle.layout_journal.specs.Run.{places}
use Rattle.crash_argument.specs.Ledger.{Ledger, WrittenRecord, next_number}
use Rattle.crash_argument.specs.OnePending.{HasOnePending}
use Rattle.crash_argument.specs.PipelineData.{pairs_of, with_committed}
use Rattle.crash_argument.specs.Points.{MountedSession, IsSafe}
use Rattle.crash_argument.specs.Recording.{IsInLedger}
use Rattle.crash_argument.specs.Steps.{with_record}
use Rattle.crash_argument.specs.Writes.{AddsFront, AddsWrites}
use Rattle.engine_running.specs.declared.commit.CommitRoom.{CommitRoom}
use Rattle.engine_running.specs.declared.commit.Committed.{Committed}
use Rattle.engine_running.specs.Commits.{IsCommitOf, Issues, MayBeCommitted, places_for, writes_of}
use Rattle.engine_running.specs.Record.{written_of, AreBelow, IsTransaction}
use Rattle.engine_running.specs.Running.{Changes}
use Rattle.engine_checkpoint.specs.declared.pipeline.Pipeline.{Pipeline}
use Rattle.engine_checkpoint.specs.declared.pipeline.Ready.{Ready}
use Rattle.engine_checkpoint.specs.Advance.{writes_owed}
use Rattle.engine_checkpoint.specs.Agree.{PipelineAgrees, AreNewTickets, AreTaken, HasFreed, HomeIsSent, data_of, home_pair}
use Rattle.engine_checkpoint.specs.Index.{IndexIsRight}
use Rattle.engine_checkpoint.specs.Kept.{kept, of_committed, places_taken}
use Rattle.engine_checkpoint.specs.Order.{IsInOrder, HasRoom, HasPlaces}
use Rattle.engine_checkpoint.specs.Steps.{Accepts, CommitNextLeaves}

-- What was made ready is enough for one record of n writes and m payloads.
pub record IsReadyFor (n m : ℕ) (ready : Ready) : Type 0 where
  pub records : 0 < ready.records
  pub writes : n ≤ ready.writes
  pub payloads : m ≤ ready.payloads

-- The committed transaction may join the pipeline.
pub record MayJoin (c : Committed) (v : Pipeline) : Type 0 where
  -- the pipeline is in order, has room for what was made ready, and its index is right
  pub order : IsInOrder v
  pub room : HasRoom v
  pub index : IndexIsRight v
  -- what was made ready is enough for it
  pub ready : IsReadyFor (length c.tickets.items) (length c.payloads.items) v.ready
  -- its number is the next one
  pub next : c.number ≡ v.last + 1
  -- the ring has its places beside those of the pipeline's records
  pub places : places_taken v + c.count ≤ v.geom.j
  -- it has a place for each of its payloads
  pub has : HasPlaces (of_committed c)
  -- which are of blocks of the disk
  pub below : AreBelow v.geom.n c.payloads.items

-- the record of these changes, as the next one by the ledger
abbrev pub next_record : Ledger → ℕ → RingPlaces → Changes → WrittenRecord
next_record l epoch ring q = written_of epoch (next_number l) ring.next q.paid q.laid

-- The changes were issued as the ledger's next record: between the two logs are its writes, and the map after it is m.
pub record WasIssued (s : MountedSession) (base : Blocks) (old new : List Event) (l : Ledger) (m : Blocks) (t floor epoch : ℕ) (v : Pipeline) (ring : RingPlaces) (waiting : List (ℕ × ℕ)) (q : Changes) (c : Committed) : Type 0 where
  -- the committed transaction has what the changes say
  pub made : IsCommitOf q (next_number l) ring.next c
  -- what was noticed is so still
  pub noticed : (u : ℕ) → IsNoticed u old → IsNoticed u new
  -- its tickets are new
  pub tickets : AreNewTickets old new c.tickets.items
  -- the blocks that it freed are those that the record frees
  pub freed : HasFreed l m c.freed.items
  -- the ledger has the record
  pub joined : IsInLedger s base new l (data_of v ring waiting) (next_record l epoch ring q) m t floor c.tickets.items
  -- no block has two writes pending
  pub one : (freed : List ℕ) → HasOnePending base new (with_record l (next_record l epoch ring q) m) (with_committed (data_of v ring waiting) l (next_record l epoch ring q) c.tickets.items freed) []
  -- the batch's checkpoint writes are the last ones of their blocks
  pub sent : HomeIsSent l.geom new (map home_pair v.home.items)

-- What a pipeline is that the committed transaction has joined.
pub record Joins (c : Committed) (v w : Pipeline) : Type 0 where
  -- where it agreed with a ledger, and the record was issued as the next one, it agrees with the ledger that has the record
  pub agrees : (s : MountedSession) (base : Blocks) (old new : List Event) (l : Ledger) (m : Blocks) (t floor epoch : ℕ) (ring : RingPlaces) (waiting : List (ℕ × ℕ)) (taken : List ℕ) (q : Changes)
      → PipelineAgrees base old l v ring waiting taken → IsSafe s base old l t floor → WasIssued s base old new l m t floor epoch v ring waiting q c
      → PipelineAgrees base new (with_record l (next_record l epoch ring q) m) w (with_places ring (places (next_record l epoch ring q).says)) (waiting ++ pairs_of (next_number l) c.freed.items) []
  -- the record is the last one of the committed
  pub accepts : Accepts c v w
  -- the pipeline is in order, has room for what is to come, and its index is right
  pub order : IsInOrder w
  pub room : HasRoom w
  pub index : IndexIsRight w
  -- it keeps the record behind those that it kept
  pub kept : kept w ≡ kept v ++ of_committed c ∷ []
  -- it has the record's ring places
  pub taken : places_taken w ≡ places_taken v + c.count
  -- and owes its checkpoint writes and two headers
  pub owed : writes_owed w ≡ writes_owed v + length c.payloads.items + 2

-- The changes may be committed as the record of this number, on a disk of so many blocks.
pub record MayCommitNext (blocks : ℕ) (q : Changes) (memory : CommitRoom) (ring : RingPlaces) (v : Pipeline) (number : ℕ) : Type 0 where
  -- a commit may be made of them
  pub commit : MayBeCommitted blocks q memory ring
  -- their payloads are of blocks of the disk
  pub paid_below : AreBelow blocks q.paid
  -- the pipeline is in order, has room for what was made ready, and its index is right
  pub order : IsInOrder v
  pub room : HasRoom v
  pub index : IndexIsRight v
  -- what was made ready is enough for the record
  pub ready : IsReadyFor (length q.laid + places_for q) (length q.paid) v.ready
  -- the number is the next one
  pub next : number ≡ v.last + 1
  -- the ring is the pipeline's, and has taken the places of its records
  pub ring_geom : ring.geom ≡ v.geom
  pub taken : ring.taken ≡ places_taken v

-- The record of this number has joined the pipeline, and its writes the log.
pub record BecomesNext (tells : Bool) (q : Changes) (epoch number : ℕ) (before after : RingPlaces) (v w : Pipeline) (old new : State) : Type 0 where
  -- the committed transaction has what the changes say
  pub committed : Committed
  pub made : IsCommitOf q number before.next committed
  -- it is the last one of the committed
  pub accepts : Accepts committed v w
  -- all its writes came to the log, with its tickets
  pub adds : IsTrue tells → AddsWrites (writes_of before epoch number q) committed.tickets.items old.log new.log
  -- the pipeline is in order, has room for what is to come, and its index is right
  pub order : IsInOrder w
  pub room : HasRoom w
  pub index : IndexIsRight w
  -- the ring has taken the places of its records
  pub taken : after.taken ≡ places_taken w
  -- the number is that of its last record
  pub last : w.last ≡ number
  -- and it owes the record's checkpoint writes and two headers
  pub owed : writes_owed w ≡ writes_owed v + length q.paid + 2

-- What the commit of these changes as the record of this number does, where the ring was `before`.
pub record CommitsNext {A : Type 0} (tells : Bool) (q : Changes) (epoch number : ℕ) (result : Result A Changes) (before after : RingPlaces) (v w : Pipeline) (old new : State) : Type 0 where
  -- its record is issued, whole or in part
  pub issues : Issues tells result q before after old new
  -- where the pipeline agreed with a ledger by which they may be the next record, it agrees with the ledger that has the record; refused, the disk is safe with it or without it
  pub agrees : IsTrue tells → (s : MountedSession) (l : Ledger) (m : Blocks) (t floor : ℕ) (waiting : List (ℕ × ℕ)) (taken : List ℕ) → IsSafe s old.base old.log l t floor → PipelineAgrees old.base old.log l v before waiting taken
      → IsTransaction l epoch number before.next q.paid q.laid m → AreTaken q.laid taken → HasFreed l m q.freed
      → CommitNextLeaves s l (written_of epoch number before.next q.paid q.laid) m t floor result new.base new.log w after (waiting ++ pairs_of number q.freed)
  -- the record joins pipeline and log
  pub becomes : OnOk result (BecomesNext tells q epoch number before after v w old new)
  -- refused, the changes come back, and the pipeline is as it was
  pub back : IfErr result (λ back. (back ≡ q) × (w ≡ v))
  -- and a front of the record's writes came to the log
  pub front : IsTrue tells → OnErr result (AddsFront (writes_of before epoch number q) old.log new.log)
