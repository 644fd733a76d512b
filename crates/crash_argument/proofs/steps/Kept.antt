-- What stays of a consistent disk where nothing comes in a block, what was written last stays, and what was idle stays so.
use Rattle.std.proofs.Common.{inl, inr, ⊎_elim, ℕ, ◌+◌, ◌-◌, ◌<◌, ◌≤◌, ◌≡◌, List, length, slice_get, Some, None, ◌∙◌, ap}
use Rattle.base_types.specs.Seal.{Blocks}
use Rattle.disk_contract.specs.declared.event.Event.{Event}
use Rattle.disk_contract.specs.Cell.{cell_of, IsWritten}
use Rattle.layout_geometry.specs.Geometry.{ring_block, bitmap_start}
use Rattle.layout_journal.specs.declared.entry.Entry.{Entry}
use Rattle.layout_journal.specs.Layout.{header_of}
use Rattle.layout_journal.specs.Run.{otherwise, places}
use Rattle.crash_argument.specs.Ledger.{Ledger, WrittenRecord, IsConsistentWith, IsOnDisk, IsIssued, HeadersAlternate, NumbersUsedOnce, HomeIsCovered, cover}
use Rattle.crash_argument.proofs.log.Adds.{Settles}
use Rattle.crash_argument.proofs.theorem.Core.{live_from}

module _ (base : Blocks) (log new : List Event) (l : Ledger) (k : IsConsistentWith base log l) (written : (y : List ℕ) → IsWritten y log → IsWritten y new) where
  -- a block that stays so
  abbrev pub Stays : ℕ → Type 0
  Stays b = Settles (cell_of base log b) (cell_of base new b)

  -- bytes that were on the disk are still
  still : (y : List ℕ) → IsOnDisk l.geom.n base log y → IsOnDisk l.geom.n base new y
  still y on = ⊎_elim (λ w. inl (written y w)) inr on

  -- the headers, where both slots stay
  pub same_headers : Stays l.slot → Stays (1 - l.slot) → HeadersAlternate (cell_of base new) l
  same_headers own beside = record {
    is_slot = k.headers.is_slot;
    durable = ap (header_of l.geom.n) (own.idle k.headers.alone).1 ∙ k.headers.durable;
    alone = (own.idle k.headers.alone).0;
    other = λ y h st is. k.headers.other y h (beside.stands y st) is;
    newer = k.headers.newer;
    fits = k.headers.fits;
  }

  -- a record, where its places and its fresh blocks past `sure` stay
  pub same_record : (w : WrittenRecord) → IsIssued base (cell_of base log) log l w → ((i : ℕ) → i < places w.says → Stays (ring_block l.geom (w.says.place + i)))
      → (l.header.sure < w.says.number → (i : ℕ) (e : Entry) → slice_get w.says.fresh i ≡ Some e → Stays e.block) → IsIssued base (cell_of base new) new l w
  same_record w old ring fresh = record {
    spelled = old.spelled;
    ring = λ i lt. (ring i lt).latest_is ∙ old.ring i lt;
    ring_logged = λ i lt. still _ (old.ring_logged i lt);
    in_place = old.in_place;
    fresh = λ late i e at. (fresh late i e at).latest_is ∙ old.fresh late i e at;
    fresh_logged = λ i e at. still _ (old.fresh_logged i e at);
    intact = λ low i lt. ((ring i lt).idle (old.intact low i lt)).0;
    intact_fresh = λ late low i e at. ((fresh late i e at).idle (old.intact_fresh late low i e at)).0;
  }

  -- the numbers, where the ring stays
  pub same_numbers : ((p : ℕ) → Stays (ring_block l.geom p)) → NumbersUsedOnce (cell_of base new) l
  same_numbers ring = record {
    commit = λ p y c st is e from. k.numbers.commit p y c ((ring p).stands y st) is e from;
    descriptor = λ p y d w st is e from got. k.numbers.descriptor p y d w ((ring p).stands y st) is e from got;
  }

  -- home content, where all blocks behind the journal stay
  pub same_home : ((b : ℕ) → bitmap_start l.geom ≤ b → Stays b) → HomeIsCovered (cell_of base new) l
  same_home high = record {
    map = λ h good bad b st split sure live. ap (otherwise (cover None good b)) (high b (live_from l.geom (l.map_before (h.start + length good)) b live)).latest_is ∙ k.home.map h good bad b st split sure live;
    laid = λ h good bad b st split sure live none. ⊎_elim (λ idle. inl ((high b (live_from l.geom (l.map_before (h.start + length good)) b live)).idle idle).0) (λ f. inr f) (k.home.laid h good bad b st split sure live none);
  }
