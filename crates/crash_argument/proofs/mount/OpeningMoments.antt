-- While the header that opens a journal without records is written, each honest image holds what was there.
use Rattle.std.proofs.Common.{◌≡◌, ◌≢◌, ◌⊎◌, inl, inr, ⊎_elim, ℕ, ◌+◌, ◌-◌, ◌^◌, ◌<◌, ◌≤◌, List, [], ◌∷◌, ◌++◌, length, Some, Err, refl, sym, ◌∙◌, ap, subst, arith}
use Rattle.std.proofs.lemmas.Bool.{cases_eq}
use Rattle.std.proofs.lemmas.Option.{same_Some}
use Rattle.base_types.specs.Seal.{Blocks}
use Rattle.disk_contract.specs.declared.event.Event.{Event}
use Rattle.disk_contract.specs.declared.event.Event.TheVariants.{Noticed}
use Rattle.disk_contract.specs.declared.disk.DiskFault.{DiskFault}
use Rattle.disk_contract.specs.Cell.{Cell, cell_of, IsNoticed}
use Rattle.disk_contract.specs.Crash.{IsHonest, Window}
use Rattle.disk_contract.specs.Disk.{AddsWrite}
use Rattle.layout_geometry.specs.Geometry.{Geometry, ring_block, bitmap_start}
use Rattle.layout_journal.specs.declared.header.Header.{Header}
use Rattle.layout_journal.specs.Layout.{header_of, commit_of}
use Rattle.layout_journal.specs.Spelling.{IsHeader, header_block}
use Rattle.layout_journal.specs.Run.{Newest, Record, commit_says, IsRun, replayed}
use Rattle.crash_argument.specs.JournalLaws.{JournalLaws}
use Rattle.crash_argument.specs.Ledger.{StandsIn, HoldsUnder}
use Rattle.crash_argument.specs.Mounting.{IsReplayedUpTo}
use Rattle.crash_argument.specs.PipelineData.{IsSettledIn}
use Rattle.crash_argument.specs.Replay.{IsFound, found_map, IsAsFound, IsReplayed, IsOpening, Closes, IsClosing, IsReplaying}
use Rattle.crash_argument.specs.Opening.{opening_header, closed_header, last_number, settled, IsReadyToOpen, AddsWaited}
use Rattle.crash_argument.proofs.log.Adds.{Adds, Settles, others_stay, settles_one, stands_settled}
use Rattle.crash_argument.proofs.theorem.Core.{live_part_same, live_from, live_below}
use Rattle.crash_argument.proofs.theorem.Images.{honest_stands, ring_within, slot_within}
use Rattle.crash_argument.proofs.log.Lists.{inspect}
use Rattle.crash_argument.proofs.mount.Moments.{moments_waited, moments_failed}
use Rattle.crash_argument.proofs.mount.OpeningSteps.{opening_is, IsLeft, own_settled, other_left}
use Rattle.crash_argument.proofs.mount.ReplayStages.{IsGeometryOf, header_geometry, run_stays, idle_is, opening_holds, closing_holds}

-- all blocks but the slot beside are as they were found; there stands what was found, or the new bytes
record IsBeingOpened (cells : ℕ → Cell) (at : Blocks) (slot : ℕ) (x : List ℕ) : Type 0 where
  pub rest : (b : ℕ) → 1 - slot ≢ b → IsAsFound cells at b
  pub beside : (y : List ℕ) → StandsIn (cells (1 - slot)) y → (y ≡ at (1 - slot)) ⊎ (y ≡ x)

-- so it begins
being_begins : (cells : ℕ → Cell) (slot : ℕ) (x : List ℕ) → ((b : ℕ) → (cells b).pending ≡ []) → IsBeingOpened cells (settled cells) slot x
being_begins cells slot x idle = record {
  rest = λ b apart. record { settled = refl; idle = idle b };
  beside = λ y st. inl (stands_settled _ y (idle (1 - slot)) st);
}

-- and so it stays, where the other blocks do, and nothing else comes beside
being_stays : (old new : ℕ → Cell) (at : Blocks) (slot : ℕ) (x : List ℕ) → ((b : ℕ) → b ≢ 1 - slot → Settles (old b) (new b)) → ((y : List ℕ) → StandsIn (new (1 - slot)) y → StandsIn (old (1 - slot)) y ⊎ (y ≡ x)) → IsBeingOpened old at slot x → IsBeingOpened new at slot x
being_stays old new at slot x others beside o = record {
  rest = λ b apart. let was = o.rest b apart in let one = (others b (λ e. apart (sym e))).idle was.idle in record { settled = one.1 ∙ was.settled; idle = one.0 };
  beside = λ y st. ⊎_elim (λ before. o.beside y before) inr (beside y st);
}

-- these bytes were written beside a header and waited for, or the write failed
abbrev pub IsTried : List Event → ℕ → List ℕ → List Event → Type 0
IsTried log slot block new = AddsWaited (1 - slot) block log new ⊎ ((x : List ℕ) × (e : DiskFault) × (x ≡ block) × AddsWrite (1 - slot) x (Err e) log new)

-- The moments of writing these bytes beside a header and waiting for them, where each image that is honest meanwhile is of some kind.
module _ (n : ℕ) (base : Blocks) (log : List Event) (slot : ℕ) (block : List ℕ) (idle : (b : ℕ) → (cell_of base log b).pending ≡ []) (Holds : Blocks → Type 0)
    (now : (later : List Event) (img : Blocks) → IsBeingOpened (cell_of base later) (settled (cell_of base log)) slot block → IsHonest n base later img → Holds img) where
  -- the bytes are being written
  abbrev Being : List Event → Type 0
  Being later = IsBeingOpened (cell_of base later) (settled (cell_of base log)) slot block

  with_write : (later new : List Event) → Adds base later new (1 - slot) block → Being later → Being new
  with_write later new a o = being_stays (cell_of base later) (cell_of base new) (settled (cell_of base log)) slot block (others_stay a) a.stands o

  with_notice : (later : List Event) (t : ℕ) → Being later → Being (later ++ Noticed t ∷ [])
  with_notice later t o = being_stays (cell_of base later) (cell_of base (later ++ Noticed t ∷ [])) (settled (cell_of base log)) slot block (λ b apart. settles_one base later t b) (λ y st. inl ((settles_one base later t (1 - slot)).stands y st)) o

  -- after the write and the wait, or a write that failed
  window : (new : List Event) → IsTried log slot block new → Window n base new (length log) Holds
  window new tried = ⊎_elim (λ w. (moments_waited n base (1 - slot) block Being Holds now with_write with_notice log new (being_begins (cell_of base log) slot block idle) w).1)
      (λ f. (moments_failed n base (1 - slot) block Being Holds now with_write with_notice log new f.0 f.1 f.2 (being_begins (cell_of base log) slot block idle) f.3).1) tried

-- what the laws of the journal's blocks say: a header that can be written reads back
module _ (laws : JournalLaws) (reads : (h : Header) → IsHeader h → header_of h.geom.n (header_block h) ≡ Some h)
    (base : Blocks) (log : List Event) (slot : ℕ) (newest : Header) (last epoch : ℕ) (low : epoch < 2 ^ 64 - 1) (turn : newest.turn < 2 ^ 64 - 1) (sure : last < 2 ^ 64 - 1)
    (ready : IsReadyToOpen (cell_of base log) slot newest epoch) where
  -- the size of the disk
  abbrev n : ℕ
  n = newest.geom.n

  -- what was found on it
  abbrev at : Blocks
  at = settled (cell_of base log)

  -- what is written
  abbrev block : List ℕ
  block = header_block (opening_header newest last epoch)

  -- the geometry fits the disk
  lies : IsGeometryOf n newest.geom
  lies = header_geometry laws n _ newest ready.is_newest.stands

  -- the new header reads back
  own : header_of n block ≡ Some (opening_header newest last epoch)
  own = reads (opening_header newest last epoch) (opening_is newest last epoch n (laws.header_bounds n _ newest ready.is_newest.stands) low turn sure)

  -- an image holds the map that was found
  abbrev Holds : Blocks → Type 0
  Holds img = HoldsUnder n newest.geom img (found_map at newest [])

  -- an honest image of any moment, where the run is empty
  module _ (run : IsRun (settled (cell_of base log)) newest []) (later : List Event) (img : Blocks) (o : IsBeingOpened (cell_of base later) at slot block) (honest : IsHonest n base later img) where
    same : (b : ℕ) → 1 - slot ≢ b → b < n → img b ≡ at b
    same b apart within = (idle_is laws) n base later img honest b within (o.rest b apart).idle ∙ (o.rest b apart).settled

    high : (b : ℕ) → 2 ≤ b → b < n → img b ≡ at b
    high b from within = same b (λ e. omega arith) within

    ring : (p : ℕ) → img (ring_block newest.geom p) ≡ at (ring_block newest.geom p)
    ring p = high (ring_block newest.geom p) (omega arith) (ring_within newest.geom p lies.ring lies.shape)

    here : header_of n (img slot) ≡ Some newest
    here = ap (header_of n) (same slot apart (slot_within newest.geom slot lies.shape ready.is_newest.is_slot)) ∙ ready.is_newest.stands
      where
        apart : 1 - slot ≢ slot
        apart = λ e. omega (arith, ready.is_newest.is_slot)

    is_same : Newest n img slot newest → Holds img
    is_same is = record {
      geom = refl;
      held = record {
        slot = slot;
        header = newest;
        run = [];
        newest = is;
        is_run = run_stays laws at img newest [] (λ p. ring_within newest.geom p lies.ring lies.shape) high run;
        each = λ b. live_part_same newest.geom at img lies.shape (λ c live. high c (omega (arith, live_from newest.geom at c live)) (live_below newest.geom at c live)) b;
      };
    }

    is_new : Newest n img (1 - slot) (opening_header newest last epoch) → Holds img
    is_new is = record {
      geom = refl;
      held = record {
        slot = 1 - slot;
        header = opening_header newest last epoch;
        run = [];
        newest = is;
        is_run = record { consecutive = tt; whole = tt; let_in = tt; within = omega arith; longest = λ q can. omega (arith, ready.epochs.commits q.place (commit_says (epoch + 1) q) (sym (ap (commit_of newest.geom) (ring q.place)) ∙ can.whole.commit)) };
        each = λ b. live_part_same newest.geom at img lies.shape (λ c live. high c (omega (arith, live_from newest.geom at c live)) (live_below newest.geom at c live)) b;
      };
    }

    now : Holds img
    now = ⊎_elim (λ none. is_same (record { is_slot = ready.is_newest.is_slot; stands = here; other = λ k is. cc })) some (inspect (header_of n (img (1 - slot))))
      where
        some : (k : Header) × (header_of n (img (1 - slot)) ≡ Some k) → Holds img
        some p =
            let stands = ⊎_elim (λ s. s) (λ q. absurd (q.1 (laws.header_sealed n _ p.0 p.1))) (honest_stands n base later img honest (1 - slot) (slot_within newest.geom (1 - slot) lies.shape (omega arith))) in
            ⊎_elim (λ old. is_same (record { is_slot = ready.is_newest.is_slot; stands = here; other = λ k is. ready.is_newest.other k (sym (ap (header_of n) old) ∙ is) }))
            (λ new. is_new (record { is_slot = omega arith; stands = ap (header_of n) new ∙ own; other = λ k is. inl (subst (λ (f : Header). f.turn < newest.turn + 1) (same_Some _ _ (sym here ∙ ap (λ s. header_of n (img s)) (sym (omega (arith, ready.is_newest.is_slot))) ∙ is)) (omega arith)) }))
            (o.beside _ stands)

  -- so each moment holds it
  pub holds : IsRun (settled (cell_of base log)) newest [] → (new : List Event) → IsTried log slot block new → Window n base new (length log) Holds
  holds run = window n base log slot block ready.idle Holds (now run)

  -- where a run was found and replayed, the newest header closes it
  module _ (was : Blocks) (old_slot : ℕ) (h : Header) (run : List Record) (found : IsFound n was old_slot h run) (r : IsReplayed (cell_of base log) was h newest run) where
    -- an image holds what was found before
    abbrev HoldsFound : Blocks → Type 0
    HoldsFound img = HoldsUnder n h.geom img (found_map was h run)

    -- at each moment the journal is being opened
    opening_now : (later : List Event) → IsBeingOpened (cell_of base later) at slot block → IsOpening n (cell_of base later) was slot h newest (opening_header newest last epoch) run
    opening_now later o = record {
      replayed = record {
        closes = r.closes;
        ring = λ place. let k = kept (ring_block h.geom place) (omega arith) (was (ring_block h.geom place)) (r.ring place).settled in record { settled = k.0; idle = k.1 };
        home = λ b low. kept b (omega arith) (replayed h.geom was run b) (r.home b low).0;
      };
      headers = record {
        is_slot = ready.is_newest.is_slot;
        stands = ap (header_of n) (o.rest slot (λ e. omega (arith, ready.is_newest.is_slot))).settled ∙ ready.is_newest.stands;
        alone = (o.rest slot (λ e. omega (arith, ready.is_newest.is_slot))).idle;
        other = λ x k st is. ⊎_elim (λ old. inl (ready.is_newest.other k (sym (ap (header_of n) old) ∙ is))) (λ new. inr (same_Some _ _ (sym is ∙ ap (header_of n) new ∙ own))) (o.beside x st);
        newer = omega arith;
      };
      geom = r.closes.geom;
      new_epoch = λ place c is. above c.epoch (ready.epochs.commits place c (ap (λ (g : Geometry). commit_of g (at (ring_block g place))) r.closes.geom ∙ ap (commit_of h.geom) (r.ring place).settled ∙ is));
    }
      where
        above : (a : ℕ) → a ≤ epoch → a < epoch + 1
        above a le = omega arith

        kept : (b : ℕ) → 2 ≤ b → (x : List ℕ) → at b ≡ x → ((cell_of base later b).settled ≡ x) × ((cell_of base later b).pending ≡ [])
        kept b high x is = let k = o.rest b (λ e. omega arith) in (k.settled ∙ is, k.idle)

    -- so each honest image holds it
    now_found : (later : List Event) (img : Blocks) → IsBeingOpened (cell_of base later) at slot block → IsHonest n base later img → HoldsFound img
    now_found later img o honest = opening_holds laws n base later img honest slot old_slot was h newest (opening_header newest last epoch) run found (opening_now later o)

    -- at each moment
    pub holds_found : (new : List Event) → IsTried log slot block new → Window n base new (length log) HoldsFound
    holds_found = window n base log slot block ready.idle HoldsFound now_found

-- the same of the header that closes a run
module _ (laws : JournalLaws) (reads : (h : Header) → IsHeader h → header_of h.geom.n (header_block h) ≡ Some h)
    (base : Blocks) (log : List Event) (slot : ℕ) (h : Header) (last : ℕ) (run : List Record) (idle : (b : ℕ) → (cell_of base log b).pending ≡ [])
    (found : IsFound h.geom.n (settled (cell_of base log)) slot h run) (is_last : last ≡ last_number h run) (writable : IsHeader (closed_header h last)) where
  -- what is written
  abbrev its_block : List ℕ
  its_block = header_block (closed_header h last)

  -- it reads back
  reads_back : header_of h.geom.n its_block ≡ Some (closed_header h last)
  reads_back = reads (closed_header h last) writable

  -- and closes the run
  pub it_closes : Closes h (closed_header h last) run
  it_closes = record { geom = refl; epoch = refl; start = refl; place = refl; is_closed = refl; sure = (omega (arith, (laws.header_bounds h.geom.n _ h found.newest.stands).first)) }

  -- an image holds what was found
  abbrev HoldsIt : Blocks → Type 0
  HoldsIt img = HoldsUnder h.geom.n h.geom img (found_map (settled (cell_of base log)) h run)

  -- at each moment the run is being closed
  closing_now : (later : List Event) → IsBeingOpened (cell_of base later) (settled (cell_of base log)) slot its_block → IsClosing h.geom.n (cell_of base later) (settled (cell_of base log)) slot h (closed_header h last) run
  closing_now later o = record {
    headers = record {
      is_slot = found.newest.is_slot;
      stands = ap (header_of h.geom.n) (o.rest slot (λ e. omega (arith, found.newest.is_slot))).settled ∙ found.newest.stands;
      alone = (o.rest slot (λ e. omega (arith, found.newest.is_slot))).idle;
      other = λ x k st is. ⊎_elim (λ old. inl (found.newest.other k (sym (ap (header_of h.geom.n) old) ∙ is))) (λ new. inr (same_Some _ _ (sym is ∙ ap (header_of h.geom.n) new ∙ reads_back))) (o.beside x st);
      newer = omega arith;
    };
    closes = it_closes;
    rest = λ b high. o.rest b (λ e. omega arith);
  }

  -- so each honest image holds it
  it_holds : (later : List Event) (img : Blocks) → IsBeingOpened (cell_of base later) (settled (cell_of base log)) slot its_block → IsHonest h.geom.n base later img → HoldsIt img
  it_holds later img o honest = closing_holds laws h.geom.n base later img honest slot (settled (cell_of base log)) h (closed_header h last) run found (closing_now later o)

  -- at each moment
  pub holds_closed : (new : List Event) → IsTried log slot its_block new → Window h.geom.n base new (length log) HoldsIt
  holds_closed = window h.geom.n base log slot its_block idle HoldsIt it_holds

  -- with its notice the run may be replayed
  pub closed_done : (new : List Event) (w : AddsWaited (1 - slot) its_block log new) → IsNoticed w.ticket new → IsReplaying h.geom.n (cell_of base new) (settled (cell_of base log)) (1 - slot) h (closed_header h last) run
  closed_done new w noticed = record {
    closes = it_closes;
    is_slot = omega arith;
    stands = ap (header_of h.geom.n) own.settled ∙ reads_back;
    alone = own.pending;
    other = λ x k st is. inl (subst (λ (f : Header). f.turn < h.turn + 1) (same_Some _ _ (sym found.newest.stands ∙ sym (ap (header_of h.geom.n) (stands_settled _ x there.idle st ∙ there.settled ∙ ap (settled (cell_of base log)) back)) ∙ is)) (omega arith));
    ring = λ place. as_it_was (ring_block h.geom place) (omega arith);
    uncovered = λ b low none. as_it_was b (omega arith);
  }
    where
      own : IsSettledIn (cell_of base new (1 - slot)) its_block
      own = own_settled base log new (1 - slot) its_block w noticed

      back : 1 - (1 - slot) ≡ slot
      back = omega (arith, found.newest.is_slot)

      there : IsLeft (cell_of base log (1 - (1 - slot))) (cell_of base new (1 - (1 - slot)))
      there = other_left base log new (1 - slot) (1 - (1 - slot)) its_block w (λ e. omega (arith, found.newest.is_slot)) (idle (1 - (1 - slot)))

      as_it_was : (b : ℕ) → 2 ≤ b → IsAsFound (cell_of base new) (settled (cell_of base log)) b
      as_it_was b high = let k = other_left base log new (1 - slot) b its_block w (λ e. omega arith) (idle b) in record { settled = k.settled; idle = k.idle }

  -- block by block from the (being_begins (cell_of base log) slot block idle) behind the journal on
  pub closed_upto : (new : List Event) (w : AddsWaited (1 - slot) its_block log new) → IsNoticed w.ticket new → IsReplayedUpTo h.geom.n (cell_of base new) (settled (cell_of base log)) (1 - slot) h (closed_header h last) run (bitmap_start h.geom)
  closed_upto new w noticed = record {
    replaying = closed_done new w noticed;
    idle = λ b. ⊎_elim (λ same. ap (λ c. (cell_of base new c).pending) (sym same) ∙ own.pending) (λ apart. (left b apart).idle) (cases_eq (1 - slot) b);
    placed = λ b low high. absurd (omega (arith, low, high));
    headers = λ s k two is. ⊎_elim (λ same. inl (same_Some _ _ (sym is ∙ ap (λ c. header_of h.geom.n (cell_of base new c).settled) (sym same) ∙ ap (header_of h.geom.n) own.settled ∙ reads_back)))
        (λ apart. inr (sym (ap (header_of h.geom.n) (left s apart).settled) ∙ is)) (cases_eq (1 - slot) s);
  }
    where
      own : IsSettledIn (cell_of base new (1 - slot)) its_block
      own = own_settled base log new (1 - slot) its_block w noticed

      left : (b : ℕ) → 1 - slot ≢ b → IsLeft (cell_of base log b) (cell_of base new b)
      left b apart = other_left base log new (1 - slot) b its_block w apart (idle b)
