-- A pipeline that has more room is the same otherwise: its records are in order, the index is right, and it agrees with the same ledger.
use Rattle.std.proofs.Common.{◌≡◌, ⊎_elim, inl, inr, ℕ, zero, suc, ◌+◌, ◌≤◌, List, [], ◌∷◌, ◌++◌, length, drop, map, slice_get, option_map, Some, sym, ◌∙◌, subst, ap, arith}
use Rattle.std.proofs.lemmas.Bool.Decides.{nat_tests}
use Rattle.std.specs.VecDeque.{deque_len}
use Rattle.base_types.specs.Seal.{Blocks}
use Rattle.disk_contract.specs.declared.event.Event.{Event}
use Rattle.layout_journal.specs.Ring.{RingPlaces}
use Rattle.crash_argument.specs.Ledger.{Ledger}
use Rattle.crash_argument.specs.OnePending.{HasOnePending, MayWriteAllFresh}
use Rattle.crash_argument.specs.PipelineData.{DataAgree}
use Rattle.engine_notes.specs.Notes.{is_noticed, is_expected}
use Rattle.engine_running.specs.declared.commit.Committed.{Committed}
use Rattle.engine_running.specs.declared.states.Durable.{Durable}
use Rattle.engine_running.specs.declared.states.Sure.{Sure}
use Rattle.engine_running.specs.declared.states.Placed.{Placed}
use Rattle.engine_checkpoint.specs.declared.pipeline.HomeWrite.{HomeWrite}
use Rattle.engine_checkpoint.specs.declared.pipeline.Ready.{Ready}
use Rattle.engine_checkpoint.specs.declared.pipeline.Pipeline.{Pipeline}
use Rattle.engine_checkpoint.specs.Agree.{PipelineAgrees, IsRecordAt, IsOpenBeside, data_of, durable_count, header_in, home_pair}
use Rattle.engine_checkpoint.specs.Index.{IndexIsRight}
use Rattle.engine_checkpoint.specs.Kept.{Kept, kept, numbers, number_of, count_of, placed_number, placed_count, total, places_taken, payloads_in}
use Rattle.engine_checkpoint.specs.Order.{IsInOrder, HasRoom}
use Rattle.engine_checkpoint.specs.Room.{NoLessRoom, RoomForRecords, RoomForPayloads, RoomForNotes}
use Rattle.engine_checkpoint.specs.Steps.{SamePipeline}
use Rattle.engine_checkpoint.proofs.Made.{same_parts}
use Rattle.engine_checkpoint.proofs.Index.{index_same}

pub same_twice : (u v w : Pipeline) → SamePipeline u v → SamePipeline v w → SamePipeline u w
same_twice u v w s t = grind (arith, nat_tests)

pub no_less_twice : (u v w : Pipeline) → NoLessRoom u v → NoLessRoom v w → NoLessRoom u w
no_less_twice u v w s t = grind (arith, nat_tests)

-- no more payloads come behind the batch than there are
behind_few : (n : ℕ) (ks : List Kept) → payloads_in (drop n ks) ≤ payloads_in ks
behind_few zero ks = omega arith
behind_few (suc n) [] = omega arith
behind_few (suc n) (k ∷ ks) = omega (arith, behind_few n ks)

-- what is ready is no part of what there is
pub same_ready : (v w : Pipeline) (r : Ready) → SamePipeline v w → SamePipeline v (record w { ready = r })
same_ready v w r s = grind (arith, nat_tests)

-- with enough room so much may be ready
pub ready_now : (v : Pipeline) (r : Ready) → IsInOrder v → RoomForRecords r.records v → RoomForPayloads r.payloads v → RoomForNotes r v → HasRoom (record v { ready = r })
ready_now v r order a p n = grind (arith, nat_tests, behind_few)

module _ (v w : Pipeline) (s : SamePipeline v w) where
  pub kept_same : kept w ≡ kept v
  kept_same = grind (arith, nat_tests)

  pub numbers_same : numbers w ≡ numbers v
  numbers_same = ap (λ ps. map placed_number ps ++ map number_of (kept w)) s.placed ∙ ap (λ ks. map placed_number v.placed.items ++ map number_of ks) kept_same

  places_same : places_taken w ≡ places_taken v
  places_same = ap (λ ps. total (map placed_count ps) + total (map count_of (kept w))) s.placed ∙ ap (λ ks. total (map placed_count v.placed.items) + total (map count_of ks)) kept_same

  header_same : w.header ≡ v.header
  header_same = ap (λ (p : Pipeline). p.header) s.rest

  next_same : w.next ≡ v.next
  next_same = ap (λ (p : Pipeline). p.next) s.rest

  batch_same : w.batch ≡ v.batch
  batch_same = ap (λ (p : Pipeline). p.batch) s.rest

  placed_same : length w.placed.items ≡ length v.placed.items
  placed_same = ap (λ (xs : List Placed). length xs) s.placed

  sure_same : length w.sure.items ≡ length v.sure.items
  sure_same = ap (λ (xs : List Sure). length xs) s.sure

  durable_same : length w.durable.items ≡ length v.durable.items
  durable_same = ap (λ (xs : List Durable). length xs) s.durable

  committed_same : length w.committed.items ≡ length v.committed.items
  committed_same = ap (λ (xs : List Committed). length xs) s.committed

  known_same : durable_count w ≡ durable_count v
  known_same = omega (arith, placed_same, sure_same, durable_same)

  lens_durable : deque_len w.durable ≡ deque_len v.durable
  lens_durable = omega (arith, durable_same, w.durable.ok.0, v.durable.ok.0)

  lens_committed : deque_len w.committed ≡ deque_len v.committed
  lens_committed = omega (arith, committed_same, w.committed.ok.0, v.committed.ok.0)

  pub index_stays : IndexIsRight v → IndexIsRight w
  index_stays = index_same v w kept_same s.newest

  pub order_stays : IsInOrder v → IsInOrder w
  order_stays o = grind (arith, nat_tests, numbers_same, header_same, placed_same, sure_same, next_same, known_same, batch_same, kept_same, places_same)

  pub room_stays : NoLessRoom v w → w.ready ≡ v.ready → HasRoom v → HasRoom w
  room_stays more ready r = grind (arith, nat_tests, kept_same, lens_durable, lens_committed, numbers_same, batch_same, next_same)

  -- what there is room for, there is room for still
  pub records_stay : (n : ℕ) → NoLessRoom v w → RoomForRecords n v → RoomForRecords n w
  records_stay n more r = grind (arith, nat_tests, numbers_same, kept_same, lens_durable, lens_committed)

  pub payloads_stay : (n : ℕ) → NoLessRoom v w → RoomForPayloads n v → RoomForPayloads n w
  payloads_stay n more r = grind (arith, nat_tests)

  -- the data for crashes are the same
  data_same : (ring : RingPlaces) (waiting : List (ℕ × ℕ)) → data_of v ring waiting ≡ data_of w ring waiting
  data_same ring waiting = grind (arith, nat_tests, same_parts, known_same, placed_same, batch_same, next_same)

  in_old : {A : Type 0} (xs ys : List A) (k : ℕ) (x : A) → xs ≡ ys → slice_get xs k ≡ Some x → slice_get ys k ≡ Some x
  in_old xs ys k x e is = ap (λ zs. slice_get zs k) (sym e) ∙ is

  beside_old : (t : ℕ) → IsOpenBeside w t → IsOpenBeside v t
  beside_old t held = ⊎_elim (λ p. inl (p.0, p.1, in_old w.home.items v.home.items p.0 p.1 s.home p.2, p.3)) (λ p. inr (p.0, sym next_same ∙ p.1, p.2)) held

  pub agrees_stays : (base : Blocks) (log : List Event) (l : Ledger) (ring : RingPlaces) (waiting : List (ℕ × ℕ)) (taken : List ℕ) → PipelineAgrees base log l v ring waiting taken → PipelineAgrees base log l w ring waiting taken
  agrees_stays base log l ring waiting taken a = record {
    geom = ap (λ (p : Pipeline). p.geom) s.rest ∙ a.geom;
    ring_geom = a.ring_geom;
    slot = ap (λ (p : Pipeline). p.slot) s.rest ∙ a.slot;
    header = header_same ∙ a.header;
    next = a.next ∙ ap (option_map header_in) (sym next_same);
    not_closed = a.not_closed;
    known = omega (arith, a.known, known_same);
    count = omega (arith, a.count, known_same, committed_same);
    sure = omega (arith, a.sure, placed_same, sure_same);
    batch = omega (arith, a.batch, batch_same, sure_same);
    freed = a.freed;
    freed_by = a.freed_by;
    placed_at = λ k t is. a.placed_at k t (in_old w.placed.items v.placed.items k t s.placed is);
    sure_at = λ k t is. subst (λ n. IsRecordAt l a.freed (n + k) t.number t.place t.count t.payloads.items t.fresh.items t.freed.items) (sym placed_same) (a.sure_at k t (in_old w.sure.items v.sure.items k t s.sure is));
    durable_at = λ k t is. subst (λ n. IsRecordAt l a.freed (n + k) t.number t.place t.count t.payloads.items t.fresh.items t.freed.items) (omega (arith, placed_same, sure_same)) (a.durable_at k t (in_old w.durable.items v.durable.items k t s.durable is));
    committed_at = λ k t is. subst (λ n. IsRecordAt l a.freed (n + k) t.number t.place t.count t.payloads.items t.fresh.items t.freed.items) (sym known_same) (a.committed_at k t (in_old w.committed.items v.committed.items k t s.committed is));
    agree = subst (DataAgree base log l) (data_same ring waiting) a.agree;
    notes = λ t e. a.notes t (ap (is_noticed t) (sym s.notes) ∙ e);
    given = λ t e. a.given t (ap (is_expected t) (sym s.notes) ∙ e);
    expected = grind (arith, nat_tests, in_old, next_same);
    apart = record {
      records = λ i k c d lt is at. a.apart.records i k c d lt (in_old w.committed.items v.committed.items i c s.committed is) (in_old w.committed.items v.committed.items k d s.committed at);
      beside = λ k t c is held. a.apart.beside k t c (in_old w.committed.items v.committed.items k c s.committed is) (beside_old t held);
      header_apart = λ q is k h at. a.apart.header_apart q (sym next_same ∙ is) k h (in_old w.home.items v.home.items k h s.home at);
      records_upto = λ k t c is own. a.apart.records_upto k t c (in_old w.committed.items v.committed.items k c s.committed is) own;
      beside_upto = λ t held. a.apart.beside_upto t (beside_old t held);
    };
    sent = λ k b t is. a.sent k b t (ap (λ (hs : List HomeWrite). slice_get (map home_pair hs) k) (sym s.home) ∙ is);
    idle = a.idle;
    one = subst (λ p. HasOnePending base log l p []) (data_same ring waiting) a.one;
    free = subst (λ p. MayWriteAllFresh log l p taken) (data_same ring waiting) a.free;
  }
