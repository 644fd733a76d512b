-- A commit of the books' transaction into the pipeline: what it asks, what it leaves where it succeeded and where the disk failed, and what it writes. It is described in docs/STORE.md.
use Rattle.std.specs.Prelude.{◌≡◌, ◌⊎◌, ℕ, ◌+◌, ◌≤◌, Bool, false, IsTrue, List, [], ◌∷◌, ◌++◌, length, map, None, Result, Ok, Err, OnOk, OnErr, ◌||◌}
use Rattle.disk_contract.specs.declared.event.Event.{Event}
use Rattle.disk_contract.specs.Cell.{accepted, is_lost}
use Rattle.disk_contract.specs.Disk.{State, GrowsByWrites, writes_in}
use Rattle.layout_geometry.specs.Geometry.{bitmap_start}
use Rattle.layout_journal.specs.Ring.{RingPlaces}
use Rattle.crash_argument.specs.HomeTest.{is_one_of}
use Rattle.crash_argument.specs.Ledger.{Ledger, next_number}
use Rattle.crash_argument.specs.Points.{MountedSession, IsSafe}
use Rattle.crash_argument.specs.Steps.{with_record}
use Rattle.crash_argument.specs.Writes.{AddsWrites, AddsFront}
use Rattle.engine_notes.specs.Notes.{is_expected, is_noticed}
use Rattle.engine_running.specs.declared.commit.CommitRoom.{CommitRoom}
use Rattle.engine_running.specs.declared.commit.Committed.{Committed}
use Rattle.engine_running.specs.Commits.{HasAllFor, Issues, places_for, writes_of}
use Rattle.engine_running.specs.Record.{written_of, block_of}
use Rattle.engine_running.specs.Rows.{put_of}
use Rattle.engine_running.specs.Running.{Changes, IsEmpty}
use Rattle.engine_checkpoint.specs.declared.pipeline.Pipeline.{Pipeline}
use Rattle.engine_checkpoint.specs.Advance.{IsRightOn, IsSound, writes_owed}
use Rattle.engine_checkpoint.specs.Agree.{NotesAreTrue, durable_count}
use Rattle.engine_checkpoint.specs.Bytes.{bytes_now}
use Rattle.engine_checkpoint.specs.Joining.{IsReadyFor}
use Rattle.engine_checkpoint.specs.Kept.{Kept, kept}
use Rattle.engine_checkpoint.specs.Steps.{is_first_settled}
use Rattle.engine_blocks.specs.Running.{HasNoBare, record_writes as writes_for}
use Rattle.engine_books.specs.Books.{TransactionBooks, bytes_over, map_of, running_of}
use Rattle.engine_books.specs.Kept.{AreKept}
use Rattle.engine_books.specs.Point.{BeganAt}
use Rattle.engine_books.specs.Sealing.{with_record as sealed_books}

-- what the pipeline keeps of the record of these changes
abbrev pub kept_of : ℕ → Changes → Kept
kept_of number q = record { number = number; count = places_for q; payloads = q.paid; fresh = map block_of q.laid; freed = q.freed }

-- the ledger with the transaction's record, where the map after it is the map now
abbrev pub ledger_with : Ledger → RingPlaces → ℕ → ℕ → TransactionBooks → Ledger
ledger_with l ring epoch number v = with_record l (written_of epoch number ring.next v.changes.paid v.changes.laid) (map_of v (l.map_before (next_number l)))

-- After a commit, by the ledger with the record: where it succeeded all is right. Where the disk failed it is safe by the ledger as it was, or by the one with the record.
abbrev pub CommitLeaves : {A E : Type 0} → Result A E → MountedSession → State → Ledger → Ledger → ℕ → ℕ → Pipeline → RingPlaces → TransactionBooks → Type 0
CommitLeaves (Ok a) s d l with_it t floor p ring v = IsRightOn s d with_it t floor p ring v.dead v.changes.taken
CommitLeaves (Err e) s d l with_it t floor p ring v = IsSafe s d.base d.log l t floor ⊎ IsSafe s d.base d.log with_it t floor

-- The transaction became the record of this number, which is the pipeline's last one. The next transaction is empty, and pipeline, ring and dead blocks are sound. Which headers there are, and how many records are durable, is as before.
pub record BecomesRecord (number : ℕ) (v w : TransactionBooks) (p q : Pipeline) (next_ring : RingPlaces) : Type 0 where
  pub books : w ≡ record (sealed_books v number) { changes = w.changes }
  pub empty : IsEmpty w.changes
  pub sound : IsSound q next_ring w.dead
  pub kept : kept q ≡ kept p ++ kept_of number v.changes ∷ []
  pub last : q.last ≡ number
  pub owed : writes_owed q ≡ writes_owed p + length v.changes.paid + 2
  pub geom : q.geom ≡ p.geom
  pub header : q.header ≡ p.header
  pub written : q.written ≡ p.written
  pub durable : durable_count q ≡ durable_count p

-- The record of this number, with these tickets, is the last committed one now, its tickets are expected too, and of each ticket the notes know what they knew.
pub record JoinsCommitted (number : ℕ) (tickets : List ℕ) (p q : Pipeline) : Type 0 where
  pub committed : Committed
  pub joined : q.committed.items ≡ p.committed.items ++ committed ∷ []
  pub number_is : committed.number ≡ number
  pub tickets_are : committed.tickets.items ≡ tickets
  pub expected : (u : ℕ) → is_expected u q.notes.notes ≡ (is_one_of u tickets || is_expected u p.notes.notes)
  pub noticed : (u : ℕ) → is_noticed u q.notes.notes ≡ is_noticed u p.notes.notes

-- Where it succeeded, the record of this number joined the committed ones, with the tickets of its writes.
abbrev pub JoinsWith : {A E : Type 0} → Result A E → ℕ → List (ℕ × List ℕ) → Pipeline → Pipeline → List Event → List Event → Type 0
JoinsWith (Ok a) number ws p q old new = (tickets : List ℕ) × JoinsCommitted number tickets p q × AddsWrites ws tickets old new
JoinsWith (Err e) number ws p q old new = Unit {0}

-- where the oldest committed record had an open ticket, or there was none, it has one still; the notes told the truth of this log
abbrev pub StaysDue : List Event → Pipeline → Pipeline → Type 0
StaysDue log p q = NotesAreTrue log p.notes.notes → is_first_settled p.committed.items p.notes.notes ≡ false → is_first_settled q.committed.items q.notes.notes ≡ false

-- all of these writes join the log, or where the disk failed a front of them
abbrev pub AddsRecord : {A E : Type 0} → Result A E → List (ℕ × List ℕ) → List Event → List Event → Type 0
AddsRecord (Ok a) ws old new = (tickets : List ℕ) × AddsWrites ws tickets old new
AddsRecord (Err e) ws old new = AddsFront ws old new

-- the block's last accepted bytes are the same, and so is whether a write was lost behind them
pub record IsLeftAlone (b : ℕ) (old new : State) : Type 0 where
  pub bytes : accepted new.base new.log b ≡ accepted old.base old.log b
  pub lost : is_lost b new.log ≡ is_lost b old.log

-- What a commit does to a disk that tells. Its writes are all that comes. From the bitmap on it writes no blocks but the transaction's fresh ones. Where it succeeded no write was lost, and what stands for each block that wasn't freed is what the transaction put, or what stood for it. So many writes were made, or are owed now.
pub record WritesRecord {A E : Type 0} (result : Result A E) (ws : List (ℕ × List ℕ)) (v : TransactionBooks) (p q : Pipeline) (old new : State) : Type 0 where
  pub adds : AddsRecord result ws old.log new.log
  pub grows : GrowsByWrites old.log new.log
  pub elsewhere : (b : ℕ) → bitmap_start v.geom ≤ b → put_of b v.changes.laid ≡ None → IsLeftAlone b old new
  pub none_lost : OnOk result (((b : ℕ) → is_lost b old.log ≡ false) → (b : ℕ) → is_lost b new.log ≡ false)
  pub bytes : OnOk result ((b : ℕ) → bitmap_start v.geom ≤ b → is_one_of b v.changes.freed ≡ false → bytes_now q new.base new.log b ≡ bytes_over v.changes (bytes_now p old.base old.log) b)
  pub writes : writes_in new.log + writes_owed q ≤ writes_in old.log + writes_owed p + writes_for (length v.changes.paid) (length v.changes.laid)

-- The books' transaction may be committed as the record of this number and this epoch, on a disk of so many blocks.
pub record MayCommitBooks (blocks : ℕ) (v : TransactionBooks) (memory : CommitRoom) (ring : RingPlaces) (p : Pipeline) (epoch number : ℕ) : Type 0 where
  -- the books are kept, and pipeline, ring and dead blocks are sound
  pub kept : AreKept v
  pub sound : IsSound p ring v.dead
  -- they have one geometry
  pub geom : p.geom ≡ v.geom
  -- there is all that the commit needs
  pub has : HasAllFor blocks v.changes memory ring
  -- what was made ready is enough for the record
  pub ready : IsReadyFor (length v.changes.laid + places_for v.changes) (length v.changes.paid) p.ready
  -- the epoch is that of the durable header
  pub epoch_is : epoch ≡ p.header.epoch
  -- and the number is the next one
  pub next : number ≡ p.last + 1

-- What the commit of the books' transaction as the record of this number does, where the ring was `before`.
pub record CommitsBooks {A E : Type 0} (tells : Bool) (v w : TransactionBooks) (epoch number : ℕ) (result : Result A E) (before after : RingPlaces) (p q : Pipeline) (old new : State) : Type 0 where
  -- its record is issued, whole or in part
  pub issues : Issues tells result v.changes before after old new
  -- the books are kept
  pub kept : AreKept w
  -- where all was right by a ledger whose newest map the transaction began at, it is right by the ledger that has the record; refused, the disk is safe by one of the two
  pub right : IsTrue tells → (s : MountedSession) (l : Ledger) (t floor : ℕ) → BeganAt v (l.map_before (next_number l)) → HasNoBare (running_of v) → IsRightOn s old l t floor p before v.dead v.changes.taken
      → CommitLeaves result s new l (ledger_with l before epoch number v) t floor q after w
  -- the transaction becomes the record
  pub becomes : OnOk result (BecomesRecord number v w p q after)
  -- refused, books and pipeline are as they were
  pub back : OnErr result ((w ≡ v) × (q ≡ p))
  -- what comes to the log, and what stands for each block then
  pub writes : IsTrue tells → WritesRecord result (writes_of before epoch number v.changes) v p q old new
  -- the record joins the committed ones with the tickets of its writes
  pub joins : IsTrue tells → JoinsWith result number (writes_of before epoch number v.changes) p q old.log new.log
  -- where the oldest committed record had an open ticket, it has one still
  pub due : IsTrue tells → OnOk result (StaysDue old.log p q)
