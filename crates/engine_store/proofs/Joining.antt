-- What stands for each block once the transaction's record is in the pipeline, and how many writes came: the clauses of a commit on a disk that tells.
use Rattle.std.proofs.Common.{◌≡◌, ℕ, suc, ◌+◌, ◌*◌, ◌<◌, ◌≤◌, ◌==◌, Bool, false, if◌then◌else◌, List, [], ◌∷◌, ◌++◌, length, map, slice_get, Option, Some, None, is_some, Ok, Err, refl, sym, ◌∙◌, ap, ap₂, subst, arith, append_assoc, inl, inr}
use Rattle.std.proofs.lemmas.Bool.{eqb-true, cases_Bool, cond-false}
use Rattle.std.proofs.lemmas.Option.{none-some}
use Rattle.std.proofs.lemmas.List.{map_push}
use Rattle.base_types.specs.Seal.{Blocks}
use Rattle.disk_contract.specs.declared.event.Event.{Event}
use Rattle.disk_contract.specs.Cell.{accepted}
use Rattle.disk_contract.specs.Disk.{State, writes_in}
use Rattle.layout_geometry.specs.Geometry.{Geometry, bitmap_start}
use Rattle.layout_journal.specs.Layout.{descriptor_count}
use Rattle.layout_journal.specs.Ring.{RingPlaces}
use Rattle.layout_journal.specs.Run.{or_else, otherwise}
use Rattle.crash_argument.specs.HomeTest.{is_one_of}
use Rattle.crash_argument.specs.Writes.{AddsWrites, AddsFront}
use Rattle.engine_running.specs.declared.commit.Committed.{Committed}
use Rattle.engine_running.specs.declared.put.Put.{Put}
use Rattle.engine_running.specs.Commits.{IsCommitOf, writes_of}
use Rattle.engine_running.specs.Record.{block_of}
use Rattle.engine_running.specs.Rows.{put_of}
use Rattle.engine_running.specs.Running.{Changes, IsOrdered, bytes_put}
use Rattle.engine_running.specs.Writes.{record_writes}
use Rattle.engine_checkpoint.specs.declared.pipeline.Pipeline.{Pipeline}
use Rattle.engine_checkpoint.specs.Advance.{writes_owed}
use Rattle.engine_checkpoint.specs.Agree.{durable_count}
use Rattle.engine_checkpoint.specs.Kept.{Kept, kept, newest_after, newest_in, of_committed, of_durable, of_sure}
use Rattle.engine_checkpoint.specs.Steps.{Accepts}
use Rattle.engine_blocks.specs.Running.{record_writes as writes_for}
use Rattle.engine_books.specs.Books.{TransactionBooks}
use Rattle.engine_books.specs.Kept.{AreKept}
use Rattle.engine_store.specs.Committing.{IsLeftAlone, WritesRecord, kept_of}
use Rattle.engine_store.proofs.RecordLogs.{Avoid, StaysAt, all_avoid, all_grow, front_avoids, front_grows, none_are_lost, none_put, record_accepted, record_avoids}

-- The bytes of a block.

-- one record more
pub newest_then : (x : Option (List ℕ)) (ks : List Kept) (k : Kept) (b : ℕ) → newest_in x (ks ++ k ∷ []) b ≡ newest_after (newest_in x ks b) k b
newest_then x [] k b = refl
newest_then x (j ∷ ks) k b = newest_then (newest_after x j b) ks k b

-- a block is among a row's where the row has a put of it
pub among : (b : ℕ) (row : List Put) → is_one_of b (map block_of row) ≡ is_some (put_of b row)
among b [] = refl
among b (q ∷ qs) = grind (arith, among b qs)

-- the put of a block in a row that has one
put_at : (row : List Put) (b : ℕ) (x : List ℕ) → put_of b row ≡ Some x → (k : ℕ) × (p : Put) × (slice_get row k ≡ Some p) × (p.block ≡ b)
put_at [] b x e = absurd (none-some x e)
put_at (q ∷ qs) b x e = elim (cases_Bool (q.block == b)) [
  | inl same ↦ (0, q, refl, eqb-true q.block b same)
  | inr apart ↦ (let r = put_at qs b x (sym (cond-false (q.block == b) (Some q.bytes) (put_of b qs) apart) ∙ e) in (suc r.0, r.1, r.2, r.3))
]

-- no block is in both rows
not_paid : (paid laid : List Put) (b : ℕ) (x : List ℕ) → IsOrdered paid laid → put_of b laid ≡ Some x → put_of b paid ≡ None
not_paid paid laid b x o is = let r = put_at laid b x is in subst (λ (c : ℕ). put_of c paid ≡ None) r.3 (none_put r.1.block paid (o.apart r.0 r.1 r.2))

-- where a block isn't freed, what stands for it is what was put, or what stood
stands_then : (laid paid before : Option (List ℕ)) (x y : List ℕ) → ((z : List ℕ) → laid ≡ Some z → paid ≡ None) → y ≡ otherwise laid x → otherwise (or_else paid (if is_some laid then None else before)) y ≡ otherwise (or_else laid paid) (otherwise before x)
stands_then (Some z) paid before x y apart e = ap (λ (o : Option (List ℕ)). otherwise (or_else o None) y) (apart z refl) ∙ e
stands_then None (Some w) before x y apart e = refl
stands_then None None before x y apart e = ap (λ (l : List ℕ). otherwise before l) e

pub bytes_then : (q : Changes) (number : ℕ) (before : Option (List ℕ)) (x y : List ℕ) (b : ℕ) → IsOrdered q.paid q.laid → is_one_of b q.freed ≡ false → y ≡ otherwise (put_of b q.laid) x → otherwise (newest_after before (kept_of number q) b) y ≡ otherwise (bytes_put q b) (otherwise before x)
bytes_then q number before x y b o stays e =
    ap₂ (λ (f l : Bool). otherwise (if f then None else or_else (put_of b q.paid) (if l then None else before)) y) stays (among b q.laid)
    ∙ stands_then (put_of b q.laid) (put_of b q.paid) before x y (λ z is. not_paid q.paid q.laid b z o is) e

no_first : (l p : Option (List ℕ)) → or_else l p ≡ None → l ≡ None
no_first l p e = grind (arith, e)

-- a block that the transaction didn't put isn't fresh
pub not_laid : (q : Changes) (b : ℕ) → bytes_put q b ≡ None → put_of b q.laid ≡ None
not_laid q b none = no_first (put_of b q.laid) (put_of b q.paid) none

-- The pipeline with the record.

pub joined : (r : Changes) (n p : ℕ) (c : Committed) (v w : Pipeline) → IsCommitOf r n p c → Accepts c v w → kept w ≡ kept v ++ kept_of n r ∷ []
joined r n p c v w is a =
    ap kept a.rest
    ∙ ap (λ (ks : List Kept). map of_sure v.sure.items ++ (map of_durable v.durable.items ++ ks)) (ap (map of_committed) a.committed ∙ map_push of_committed v.committed.items c)
    ∙ ap (λ (ks : List Kept). map of_sure v.sure.items ++ ks) (sym (append_assoc (map of_durable v.durable.items) (map of_committed v.committed.items) (of_committed c ∷ [])))
    ∙ sym (append_assoc (map of_sure v.sure.items) (map of_durable v.durable.items ++ map of_committed v.committed.items) (of_committed c ∷ []))
    ∙ ap (λ (k : Kept). kept v ++ k ∷ []) (λ i. record { number = is.number i; count = is.count i; payloads = is.payloads i; fresh = is.fresh i; freed = is.freed i })

pub still_durable : (c : Committed) (v w : Pipeline) → Accepts c v w → durable_count w ≡ durable_count v
still_durable c v w a = ap durable_count a.rest

-- What engine_running promises of a record's writes: how many there are, and how many come.
abbrev pub SizeLaw : Type 0
SizeLaw = (g : Geometry) (epoch number place : ℕ) (paid laid : List Put) → length (record_writes g epoch number place paid laid) ≡ length laid + descriptor_count (length paid + length laid) + length paid + 1

abbrev pub AllLaw : Type 0
AllLaw = (ws : List (ℕ × List ℕ)) (ts : List ℕ) (old new : List Event) → AddsWrites ws ts old new → writes_in new ≡ writes_in old + length ws

abbrev pub FrontLaw : Type 0
FrontLaw = (ws : List (ℕ × List ℕ)) (old new : List Event) → AddsFront ws old new → writes_in new ≤ writes_in old + length ws

within : (m n d size before after owed still : ℕ) → size ≡ n + d + m + 1 → after ≤ before + size → still ≤ owed + m + 2 → after + still ≤ before + owed + (2 * m + n + d + 3)
within m n d size before after owed still e f g = omega (arith, e, f, g)

module _ (sizes : SizeLaw) (all : AllLaw) (front : FrontLaw) (v : TransactionBooks) (p q : Pipeline) (ring : RingPlaces) (epoch number : ℕ) (old new : State) (k : AreKept v) (geom : ring.geom ≡ v.geom) (base : new.base ≡ old.base) where
  abbrev ws : List (ℕ × List ℕ)
  ws = writes_of ring epoch number v.changes

  some : 0 < ring.geom.j
  some = subst (λ (g : Geometry). 0 < g.j) (sym geom) (omega (arith, k.limits.least_journal))

  from_bitmap : (b : ℕ) → bitmap_start v.geom ≤ b → bitmap_start ring.geom ≤ b
  from_bitmap b from = subst (λ (g : Geometry). bitmap_start g ≤ b) (sym geom) from

  alone : (b : ℕ) → StaysAt b old.log new.log → IsLeftAlone b old new
  alone b s = record { bytes = ap (λ (m : Blocks). accepted m new.log b) base ∙ s.bytes (old.base b); lost = s.lost }

  apart : (b : ℕ) → bitmap_start v.geom ≤ b → put_of b v.changes.laid ≡ None → Avoid b ws
  apart b from none = record_avoids ring.geom epoch number ring.next v.changes.paid v.changes.laid b some (from_bitmap b from) none

  abbrev m : ℕ
  m = length v.changes.paid

  abbrev n : ℕ
  n = length v.changes.laid

  in_sum : writes_in new.log ≤ writes_in old.log + length ws → writes_owed q ≤ writes_owed p + m + 2 → writes_in new.log + writes_owed q ≤ writes_in old.log + writes_owed p + writes_for m n
  in_sum e f = within m n (descriptor_count (m + n)) (length ws) (writes_in old.log) (writes_in new.log) (writes_owed p) (writes_owed q) (sizes ring.geom epoch number ring.next v.changes.paid v.changes.laid) e f

  -- where it succeeded
  pub record_written : {A : Type 0} (E : Type 0) (a : A) (ts : List ℕ) → AddsWrites ws ts old.log new.log → kept q ≡ kept p ++ kept_of number v.changes ∷ [] → writes_owed q ≡ writes_owed p + m + 2 → WritesRecord {E = E} (Ok a) ws v p q old new
  record_written E a ts adds joins owed = record {
    adds = (ts, adds);
    grows = all_grow ws ts old.log new.log adds;
    elsewhere = λ b from none. alone b (all_avoid b ws ts old.log new.log adds (apart b from none));
    none_lost = λ none b. none_are_lost b ws ts old.log new.log adds (none b);
    bytes = λ b from stays.
        ap (λ (ks : List Kept). otherwise (newest_in None ks b) (accepted new.base new.log b)) joins
        ∙ ap (λ (o : Option (List ℕ)). otherwise o (accepted new.base new.log b)) (newest_then None (kept p) (kept_of number v.changes) b)
        ∙ bytes_then v.changes number (newest_in None (kept p) b) (accepted old.base old.log b) (accepted new.base new.log b) b k.lie.ordered stays
        (ap (λ (m : Blocks). accepted m new.log b) base ∙ record_accepted ring.geom epoch number ring.next v.changes.paid v.changes.laid b (old.base b) ts old.log new.log some (from_bitmap b from) k.lie.ordered.laid adds);
    writes = in_sum (omega (arith, all ws ts old.log new.log adds)) (omega (arith, owed));
  }

  -- where the disk failed
  pub front_written : {E : Type 0} (A : Type 0) (e : E) → q ≡ p → AddsFront ws old.log new.log → WritesRecord {A = A} (Err e) ws v p q old new
  front_written A e back f = record {
    adds = f;
    grows = front_grows ws old.log new.log f;
    elsewhere = λ b from none. alone b (front_avoids b ws old.log new.log f (apart b from none));
    none_lost = tt;
    bytes = tt;
    writes = in_sum (front ws old.log new.log f) (omega (arith, ap writes_owed back));
  }
