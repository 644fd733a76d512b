-- The parts of a store behind a commit of the books' transaction: the books, what is right, and the record in the pipeline.
use Rattle.std.proofs.Common.{◌≡◌, ◌⊎◌, ℕ, ◌+◌, ◌≤◌, List, [], ◌∷◌, ◌++◌, length, sym, ap, subst, ◌∙◌}
use Rattle.base_types.specs.Seal.{Blocks}
use Rattle.disk_contract.specs.declared.event.Event.{Event}
use Rattle.layout_geometry.specs.Geometry.{Geometry}
use Rattle.layout_journal.specs.Ring.{RingPlaces, with_places}
use Rattle.layout_journal.specs.Run.{places}
use Rattle.crash_argument.specs.Ledger.{Ledger, WrittenRecord, next_number}
use Rattle.crash_argument.specs.PipelineData.{pairs_of}
use Rattle.crash_argument.specs.Points.{MountedSession, IsSafe}
use Rattle.crash_argument.specs.Steps.{with_record}
use Rattle.engine_running.specs.declared.commit.Committed.{Committed}
use Rattle.engine_running.specs.declared.put.Put.{Put}
use Rattle.engine_running.specs.Commits.{IsCommitOf, places_for}
use Rattle.engine_running.specs.Record.{record_of, written_of, AreBelow, IsTransaction}
use Rattle.engine_running.specs.Running.{Changes, IsEmpty}
use Rattle.engine_reuse.specs.Calls.{with_sealed}
use Rattle.engine_reuse.specs.Dead.{DeadBlocks}
use Rattle.engine_checkpoint.specs.declared.pipeline.Pipeline.{Pipeline}
use Rattle.engine_checkpoint.specs.Advance.{IsRight, IsSound, writes_owed}
use Rattle.engine_checkpoint.specs.Agree.{PipelineAgrees, AreTaken, HasFreed}
use Rattle.engine_checkpoint.specs.Kept.{kept}
use Rattle.engine_checkpoint.specs.Steps.{Accepts}
use Rattle.engine_blocks.specs.Running.{HasNoBare}
use Rattle.engine_books.specs.Books.{TransactionBooks, map_of, running_of}
use Rattle.engine_books.specs.Kept.{AreKept}
use Rattle.engine_books.specs.Point.{BeganAt}
use Rattle.engine_books.specs.Sealing.{with_record as sealed_books}
use Rattle.engine_store.specs.Committing.{BecomesRecord, kept_of, ledger_with}
use Rattle.engine_store.proofs.Joining.{joined, still_durable}

-- The books.

-- the books with their transaction again
pub kept_again : (v e : TransactionBooks) → e ≡ record v { changes = e.changes } → AreKept v → AreKept (record e { changes = v.changes })
kept_again v e same k = subst (λ (u : TransactionBooks). AreKept (record u { changes = v.changes })) (sym same) k

pub given_back : (v e w : TransactionBooks) (q back : Changes) → e ≡ record v { changes = e.changes } → q ≡ v.changes → back ≡ q → w ≡ record e { changes = back } → w ≡ v
given_back v e w q back same is came given =
    given ∙ ap (λ (x : Changes). record e { changes = x }) (came ∙ is) ∙ ap (λ (u : TransactionBooks). record u { changes = v.changes }) same

-- the dead blocks of the books that were sealed
pub sealed_dead : (v e w : TransactionBooks) (number : ℕ) → e ≡ record v { changes = e.changes } → w ≡ sealed_books e number → w.dead ≡ with_sealed v.dead number
sealed_dead v e w number same sealed = ap (λ (u : TransactionBooks). u.dead) sealed ∙ ap (λ (u : TransactionBooks). with_sealed u.dead number) same

-- the puts of the changes that were taken out are of blocks of the disk
pub are_below : (v : TransactionBooks) (r : Changes) (blocks : ℕ) (p : Pipeline) (ring : RingPlaces) (puts : Changes → List Put) → r ≡ v.changes → blocks ≡ ring.geom.n → ring.geom ≡ p.geom → p.geom ≡ v.geom → AreBelow v.geom.n (puts v.changes) → AreBelow blocks (puts r)
are_below v r blocks p ring puts is same ring_geom geom below = subst (λ (n : ℕ). AreBelow n (puts r)) (sym (same ∙ ap (λ (g : Geometry). g.n) (ring_geom ∙ geom))) (subst (λ (q : Changes). AreBelow v.geom.n (puts q)) (sym is) below)

-- What is right.

-- what the laws and the commit promise
abbrev pub MayLaw : Type 0
MayLaw = (s : MountedSession) (base : Blocks) (log : List Event) (l : Ledger) (t floor : ℕ) (p : Pipeline) (ring : RingPlaces) (v : TransactionBooks) → AreKept v → BeganAt v (l.map_before (next_number l)) → HasNoBare (running_of v) → IsRight s base log l t floor p ring v.dead v.changes.taken → IsSound p ring v.dead → p.geom ≡ v.geom
    → ring.taken + places (record_of 0 0 v.changes.paid v.changes.laid) ≤ ring.geom.j → IsTransaction l p.header.epoch (p.last + 1) ring.next v.changes.paid v.changes.laid (map_of v (l.map_before (next_number l)))

abbrev pub TakenLaw : Type 0
TakenLaw = (v : TransactionBooks) → AreKept v → AreTaken v.changes.laid v.changes.taken

abbrev pub FreedLaw : Type 0
FreedLaw = (v : TransactionBooks) (l : Ledger) → AreKept v → BeganAt v (l.map_before (next_number l)) → l.geom ≡ v.geom → HasFreed l (map_of v (l.map_before (next_number l))) v.changes.freed

abbrev pub RightLaw : Type 0
RightLaw = (s : MountedSession) (base then_base : Blocks) (log then_log : List Event) (l : Ledger) (w : WrittenRecord) (t floor number : ℕ) (p then_p : Pipeline) (ring then_ring : RingPlaces) (v : TransactionBooks) (c : Committed) → AreKept v → BeganAt v (l.map_before (next_number l)) → p.geom ≡ v.geom → IsRight s base log l t floor p ring v.dead v.changes.taken → Accepts c p then_p
    → IsSafe s then_base then_log (with_record l w (map_of v (l.map_before (next_number l)))) t floor × PipelineAgrees then_base then_log (with_record l w (map_of v (l.map_before (next_number l)))) then_p then_ring (v.dead.waiting ++ pairs_of number v.changes.freed) []
    → IsRight s then_base then_log (with_record l w (map_of v (l.map_before (next_number l)))) t floor then_p then_ring (sealed_books v number).dead []

-- a commit of these changes gives so much, of each session, ledger, map, moment and floor, and of the blocks that wait
abbrev pub CommitGives : Blocks → List Event → ℕ → ℕ → Pipeline → RingPlaces → Changes → (MountedSession → Ledger → Blocks → ℕ → ℕ → List (ℕ × ℕ) → Type 0) → Type 0
CommitGives base log epoch number p ring q Then = (s : MountedSession) (l : Ledger) (m : Blocks) (t floor : ℕ) (waiting : List (ℕ × ℕ)) (taken : List ℕ) → IsSafe s base log l t floor → PipelineAgrees base log l p ring waiting taken
    → IsTransaction l epoch number ring.next q.paid q.laid m → AreTaken q.laid taken → HasFreed l m q.freed → Then s l m t floor waiting

-- where it succeeded: the disk is safe with the record, and the pipeline agrees
abbrev pub AgreesThen : Blocks → List Event → ℕ → ℕ → RingPlaces → Pipeline → RingPlaces → Changes → MountedSession → Ledger → Blocks → ℕ → ℕ → List (ℕ × ℕ) → Type 0
AgreesThen base log epoch number ring then_p then_ring q s l m t floor waiting =
    IsSafe s base log (with_record l (written_of epoch number ring.next q.paid q.laid) m) t floor × PipelineAgrees base log (with_record l (written_of epoch number ring.next q.paid q.laid) m) then_p then_ring (waiting ++ pairs_of number q.freed) []

-- where the disk failed: it is safe without the record or with it
abbrev pub SafeThen : Blocks → List Event → ℕ → ℕ → RingPlaces → Changes → MountedSession → Ledger → Blocks → ℕ → ℕ → List (ℕ × ℕ) → Type 0
SafeThen base log epoch number ring q s l m t floor waiting = IsSafe s base log l t floor ⊎ IsSafe s base log (with_record l (written_of epoch number ring.next q.paid q.laid) m) t floor

module _ (may : MayLaw) (takes : TakenLaw) (frees : FreedLaw) (base : Blocks) (log : List Event) (epoch number : ℕ) (p : Pipeline) (ring : RingPlaces) (v : TransactionBooks)
    (k : AreKept v) (sound : IsSound p ring v.dead) (geom : p.geom ≡ v.geom) (free : ring.taken + places (record_of 0 0 v.changes.paid v.changes.laid) ≤ ring.geom.j) (epoch_is : epoch ≡ p.header.epoch) (next : number ≡ p.last + 1) where
  -- what the commit gives of the books' transaction, by the ledger by which all is right
  given : (Then : MountedSession → Ledger → Blocks → ℕ → ℕ → List (ℕ × ℕ) → Type 0) → CommitGives base log epoch number p ring v.changes Then
      → (s : MountedSession) (l : Ledger) (t floor : ℕ) → BeganAt v (l.map_before (next_number l)) → HasNoBare (running_of v) → IsRight s base log l t floor p ring v.dead v.changes.taken → Then s l (map_of v (l.map_before (next_number l))) t floor v.dead.waiting
  given Then gives s l t floor began filled r =
      gives s l (map_of v (l.map_before (next_number l))) t floor v.dead.waiting v.changes.taken r.safe r.agrees
      (subst (λ (e : ℕ). IsTransaction l e number ring.next v.changes.paid v.changes.laid (map_of v (l.map_before (next_number l)))) (sym epoch_is) (subst (λ (n : ℕ). IsTransaction l p.header.epoch n ring.next v.changes.paid v.changes.laid (map_of v (l.map_before (next_number l)))) (sym next)
      (may s base log l t floor p ring v k began filled r sound geom free)))
      (takes v k) (frees v l k began (sym r.agrees.geom ∙ geom))

  -- where the disk failed it is safe
  pub books_safe : (then_base : Blocks) (then_log : List Event) (q : Changes) → q ≡ v.changes → CommitGives base log epoch number p ring q (SafeThen then_base then_log epoch number ring q)
      → (s : MountedSession) (l : Ledger) (t floor : ℕ) → BeganAt v (l.map_before (next_number l)) → HasNoBare (running_of v) → IsRight s base log l t floor p ring v.dead v.changes.taken → IsSafe s then_base then_log l t floor ⊎ IsSafe s then_base then_log (ledger_with l ring epoch number v) t floor
  books_safe then_base then_log q is gives = given (SafeThen then_base then_log epoch number ring v.changes) (subst (λ (r : Changes). CommitGives base log epoch number p ring r (SafeThen then_base then_log epoch number ring r)) is gives)

  -- where it succeeded all is right by the books that were sealed
  pub books_right : RightLaw → (then_base : Blocks) (then_log : List Event) (then_p : Pipeline) (then_ring : RingPlaces) (c : Committed) → Accepts c p then_p → (q : Changes) → q ≡ v.changes → CommitGives base log epoch number p ring q (AgreesThen then_base then_log epoch number ring then_p then_ring q)
      → (dead : DeadBlocks) (taken : List ℕ) → dead ≡ with_sealed v.dead number → taken ≡ []
      → (s : MountedSession) (l : Ledger) (t floor : ℕ) → BeganAt v (l.map_before (next_number l)) → HasNoBare (running_of v) → IsRight s base log l t floor p ring v.dead v.changes.taken → IsRight s then_base then_log (ledger_with l ring epoch number v) t floor then_p then_ring dead taken
  books_right stays then_base then_log then_p then_ring c accepts q is gives dead taken dead_is none s l t floor began filled r =
      subst (λ (d : DeadBlocks). IsRight s then_base then_log (ledger_with l ring epoch number v) t floor then_p then_ring d taken) (sym dead_is)
      (subst (λ (ns : List ℕ). IsRight s then_base then_log (ledger_with l ring epoch number v) t floor then_p then_ring (with_sealed v.dead number) ns) (sym none)
      (stays s base then_base log then_log l (written_of epoch number ring.next v.changes.paid v.changes.laid) t floor number p then_p ring then_ring v c k began geom r accepts
      (given (AgreesThen then_base then_log epoch number ring then_p then_ring v.changes) (subst (λ (x : Changes). CommitGives base log epoch number p ring x (AgreesThen then_base then_log epoch number ring then_p then_ring x)) is gives) s l t floor began filled r)))

-- The record in the pipeline.

-- what a commit promises of the pipeline and the ring, and of the changes that were taken out of the books
pub becomes_record : (v e w : TransactionBooks) (r : Changes) (number : ℕ) (p q : Pipeline) (ring next_ring : RingPlaces) (c : Committed) → e ≡ record v { changes = e.changes } → r ≡ v.changes → IsEmpty e.changes → w ≡ sealed_books e number → IsCommitOf r number ring.next c → Accepts c p q
    → next_ring ≡ with_places ring (places_for r) → q.last ≡ number → writes_owed q ≡ writes_owed p + length r.paid + 2 → IsSound q (with_places ring (places_for r)) (with_sealed v.dead number) → BecomesRecord number v w p q next_ring
becomes_record v e w r number p q ring next_ring c same is none sealed made accepts taken last owed sound = record {
  books = sealed ∙ ap (λ (u : TransactionBooks). sealed_books u number) same ∙ ap (λ (x : Changes). record (sealed_books v number) { changes = x }) (sym changes);
  empty = subst IsEmpty (sym changes) none;
  sound = subst (λ (d : DeadBlocks). IsSound q next_ring d) (sym (sealed_dead v e w number same sealed)) (subst (λ (x : RingPlaces). IsSound q x (with_sealed v.dead number)) (sym taken) sound);
  kept = subst (λ (x : Changes). kept q ≡ kept p ++ kept_of number x ∷ []) is (joined r number ring.next c p q made accepts);
  last = last;
  owed = owed ∙ ap (λ (x : Changes). writes_owed p + length x.paid + 2) is;
  geom = ap (λ (x : Pipeline). x.geom) accepts.rest;
  header = ap (λ (x : Pipeline). x.header) accepts.rest;
  written = ap (λ (x : Pipeline). x.written) accepts.rest;
  durable = still_durable c p q accepts;
}
  where
    changes : w.changes ≡ e.changes
    changes = ap (λ (u : TransactionBooks). u.changes) sealed
