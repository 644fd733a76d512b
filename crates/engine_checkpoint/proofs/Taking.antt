-- What stays right as the running transaction takes blocks: each block that may be taken may be written fresh.
use Rattle.std.proofs.Common.{◌≡◌, ◌⊎◌, ⊎_elim, ℕ, zero, suc, ◌≤◌, ◌==◌, ◌&&◌, ◌||◌, not, Bool, true, false, List, [], ◌∷◌, ◌++◌, map, filter, slice_get, Some, refl, sym, ◌∙◌, ap, subst, arith}
use Rattle.std.proofs.lemmas.Bool.Decides.{nat_tests}
use Rattle.std.proofs.lemmas.Bool.{false≢true, eqb-true, or_left}
use Rattle.std.proofs.lemmas.List.Folds.{list_any-append}
use Rattle.std.proofs.lemmas.Map.Views.{any-filter_same}
use Rattle.std.proofs.lemmas.Option.{none-some}
use Rattle.base_types.specs.Seal.{Blocks}
use Rattle.disk_contract.specs.declared.event.Event.{Event}
use Rattle.disk_contract.specs.Cell.{IsNoticed}
use Rattle.layout_geometry.specs.Geometry.{data_start}
use Rattle.layout_journal.specs.Ring.{RingPlaces}
use Rattle.layout_journal.specs.Run.{is_live}
use Rattle.crash_argument.specs.HomeTest.{is_one_of}
use Rattle.crash_argument.specs.LastWrites.{IsDead}
use Rattle.crash_argument.specs.Ledger.{Ledger, IsConsistentWith, next_number}
use Rattle.crash_argument.specs.OnePending.{IsNotOnItsWay, MayWriteFresh, MayWriteAllFresh}
use Rattle.crash_argument.specs.PipelineData.{PipelineData, DataAgree}
use Rattle.crash_argument.specs.Points.{MountedSession}
use Rattle.engine_notes.specs.Notes.{is_expected, is_noticed, is_open}
use Rattle.engine_reuse.specs.Calls.{with_taken}
use Rattle.engine_reuse.specs.Dead.{AreSound, DeadBlocks, block_of}
use Rattle.engine_reuse.specs.Numbers.{is_among}
use Rattle.engine_checkpoint.specs.declared.pipeline.HomeWrite.{HomeWrite}
use Rattle.engine_checkpoint.specs.declared.pipeline.Pipeline.{Pipeline}
use Rattle.engine_checkpoint.specs.Advance.{IsRight, MayServe}
use Rattle.engine_checkpoint.specs.Agree.{PipelineAgrees, data_of, home_pair}
use Rattle.engine_checkpoint.proofs.Serves.{pair_among}

-- a dead block that doesn't wait may be written, as the crash argument has it
abbrev pub DeadLaw : Type 0
DeadLaw = (base : Blocks) (log : List Event) (l : Ledger) (p : PipelineData) (b : ℕ) → IsConsistentWith base log l → DataAgree base log l p → data_start l.geom ≤ b → is_live l.geom (l.map_before (next_number l)) b ≡ false → ((i r : ℕ) → slice_get p.waiting i ≡ Some (b, r) → ⊥) → IsDead l b

-- a block that waits may not be taken
abbrev pub WaitLaw : Type 0
WaitLaw = (d : DeadBlocks) (b : ℕ) → AreSound d → is_among b (map block_of d.waiting) ≡ true → is_among b d.reusable ≡ false

-- what a filter leaves

or_was : (p q r : Bool) → ((p && q) || r) ≡ true → (q || r) ≡ true
or_was true q r e = e
or_was false true r e = refl
or_was false false r e = e

-- what is among those that were left or among others was so before
left_was : (p : ℕ → Bool) (b : ℕ) (xs ys : List ℕ) → is_among b (filter p xs ++ ys) ≡ true → is_among b (xs ++ ys) ≡ true
left_was p b xs ys e = list_any-append (λ x. x == b) xs ys ∙ or_was (p b) (is_among b xs) (is_among b ys) (sym (ap (λ t. t || is_among b ys) (any-filter_same (λ x. x == b) p (p b) (λ k e. ap p (eqb-true k b e)) xs)) ∙ sym (list_any-append (λ x. x == b) (filter p xs) ys) ∙ e)

and_not : (p q : Bool) → q ≡ false → (p && q) ≡ false
and_not true q e = e
and_not false q e = refl

left_not : (p : ℕ → Bool) (b : ℕ) (xs : List ℕ) → is_among b xs ≡ false → is_among b (filter p xs) ≡ false
left_not p b xs e = any-filter_same (λ x. x == b) p (p b) (λ k e. ap p (eqb-true k b e)) xs ∙ and_not (p b) (is_among b xs) e

-- the checkpoint write of a pair
pub home_at : (hs : List HomeWrite) (k b t : ℕ) → slice_get (map home_pair hs) k ≡ Some (b, t) → (h : HomeWrite) × (slice_get hs k ≡ Some h) × (h.block ≡ b) × (h.ticket ≡ t)
home_at [] k b t is = absurd (none-some (b, t) is)
home_at (h ∷ hs) zero b t is = grind (arith, nat_tests)
home_at (h ∷ hs) (suc k) b t is = home_at hs k b t is

-- a ticket that is expected and isn't open is noticed
noticed_of : (e n : Bool) → e ≡ true → (e && not n) ≡ false → n ≡ true
noticed_of true true f g = refl
noticed_of true false f g = absurd (false≢true (sym g))
noticed_of false n f g = absurd (false≢true f)

-- fewer blocks may be taken, and no others
pub serves_taken : (l : Ledger) (v : Pipeline) (dead : DeadBlocks) (list : List ℕ) → MayServe l v dead → MayServe l v (with_taken dead list)
serves_taken l v dead list m = grind (arith, nat_tests, left_was, left_not)

-- other blocks are the transaction's, which may be written fresh too
pub agrees_taken : (base : Blocks) (log : List Event) (l : Ledger) (v : Pipeline) (ring : RingPlaces) (waiting : List (ℕ × ℕ)) (taken now : List ℕ) → PipelineAgrees base log l v ring waiting taken → MayWriteAllFresh log l (data_of v ring waiting) now → PipelineAgrees base log l v ring waiting now
agrees_taken base log l v ring waiting taken now a may = record {
  geom = a.geom;
  ring_geom = a.ring_geom;
  slot = a.slot;
  header = a.header;
  next = a.next;
  not_closed = a.not_closed;
  known = a.known;
  count = a.count;
  sure = a.sure;
  batch = a.batch;
  freed = a.freed;
  freed_by = a.freed_by;
  placed_at = a.placed_at;
  sure_at = a.sure_at;
  durable_at = a.durable_at;
  committed_at = a.committed_at;
  agree = a.agree;
  notes = a.notes;
  given = a.given;
  expected = a.expected;
  apart = a.apart;
  sent = a.sent;
  idle = a.idle;
  one = a.one;
  free = may;
}

module _ (base : Blocks) (log : List Event) (l : Ledger) (v : Pipeline) (ring : RingPlaces) (dead : DeadBlocks) (taken : List ℕ) (a : PipelineAgrees base log l v ring dead.waiting taken) (keeps : IsConsistentWith base log l)
    (sound : AreSound dead) (dead_geom : dead.geom ≡ v.geom) (serves : MayServe l v dead) (law : DeadLaw) (waits : WaitLaw) where
  -- no checkpoint write to a block that may be taken is open
  not_on_its_way : (b : ℕ) → is_among b dead.reusable ≡ true → IsNotOnItsWay log (data_of v ring dead.waiting) b
  not_on_its_way b may k t is = by (home_at v.home.items k b t is)
    where
      by : (h : HomeWrite) × (slice_get v.home.items k ≡ Some h) × (h.block ≡ b) × (h.ticket ≡ t) → IsNoticed t log
      by (h, at, own, its) = subst (λ u. IsNoticed u log) its (a.notes h.ticket (seen (is_open h.ticket v.notes.notes) refl))
        where
          seen : (o : Bool) → is_open h.ticket v.notes.notes ≡ o → is_noticed h.ticket v.notes.notes ≡ true
          seen true opens = absurd (false≢true (sym (serves.not_going k h at opens) ∙ (ap (λ c. is_among c dead.reusable) own ∙ may)))
          seen false shut = noticed_of (is_expected h.ticket v.notes.notes) (is_noticed h.ticket v.notes.notes) (a.expected.home k h at) shut

  -- a block that may be taken may be written fresh
  may_write : (b : ℕ) → is_among b dead.reusable ≡ true → MayWriteFresh log l (data_of v ring dead.waiting) b
  may_write b may =
      let lies = sound.lie b (list_any-append (λ x. x == b) dead.reusable (dead.held ++ map block_of dead.waiting) ∙ or_left _ _ may) in
      let from : data_start l.geom ≤ b = subst (λ g. data_start g ≤ b) (dead_geom ∙ a.geom) lies.from in
      let dead_now = serves.dead_now b (list_any-append (λ x. x == b) dead.reusable (map block_of dead.waiting) ∙ or_left _ _ may) in (
        law base log l (data_of v ring dead.waiting) b keeps a.agree from dead_now (λ i r is. false≢true (sym (waits dead b sound (pair_among b r i dead.waiting is)) ∙ may)),
        not_on_its_way b may,
      )

  pub may_write_all : (list now : List ℕ) → ((b : ℕ) → is_one_of b list ≡ true → is_among b dead.reusable ≡ true) → ((b : ℕ) → is_one_of b now ≡ true → (is_one_of b list ≡ true) ⊎ (is_one_of b taken ≡ true))
      → MayWriteAllFresh log l (data_of v ring dead.waiting) now
  may_write_all list now may each b own = ⊎_elim (λ e. may_write b (may b e)) (λ e. a.free b e) (each b own)

module _ (s : MountedSession) (base : Blocks) (log : List Event) (l : Ledger) (t floor : ℕ) (v : Pipeline) (ring : RingPlaces) (dead : DeadBlocks) (taken : List ℕ) (r : IsRight s base log l t floor v ring dead taken) where
  pub right_taken : (list now : List ℕ) → DeadLaw → WaitLaw → AreSound dead → dead.geom ≡ v.geom → ((b : ℕ) → is_one_of b list ≡ true → is_among b dead.reusable ≡ true) → ((b : ℕ) → is_one_of b now ≡ true → (is_one_of b list ≡ true) ⊎ (is_one_of b taken ≡ true))
      → IsRight s base log l t floor v ring (with_taken dead list) now
  right_taken list now law waits sound geom may each = record {
    safe = r.safe;
    agrees = agrees_taken base log l v ring dead.waiting taken now r.agrees (may_write_all base log l v ring dead taken r.agrees r.safe.keeps sound geom r.serves law waits list now may each);
    serves = serves_taken l v dead list r.serves;
  }

  pub right_fewer : (now : List ℕ) → ((b : ℕ) → is_one_of b now ≡ true → is_one_of b taken ≡ true) → IsRight s base log l t floor v ring dead now
  right_fewer now each = record {
    safe = r.safe;
    agrees = agrees_taken base log l v ring dead.waiting taken now r.agrees (λ b own. r.agrees.free b (each b own));
    serves = r.serves;
  }

  -- with other held blocks, and other room
  pub right_held : (held : List ℕ) (n : ℕ) → IsRight s base log l t floor v ring (record dead { held = held; room = n }) taken
  right_held held n = record {
    safe = r.safe;
    agrees = r.agrees;
    serves = record { dead_now = r.serves.dead_now; not_going = r.serves.not_going };
  }
