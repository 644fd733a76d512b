-- While a mount replays, each honest image holds what was found.
use Rattle.std.proofs.Common.{◌≡◌, ◌⊎◌, inl, inr, ⊎_elim, ℕ, ◌+◌, ◌-◌, ◌%◌, ◌<◌, ◌≤◌, IsTrue, if◌then◌else◌, ◌==◌, List, [], ◌∷◌, ◌++◌, length, slice_get, Option, Some, None, refl, sym, ◌∙◌, ap, subst, arith}
use Rattle.std.proofs.lemmas.Option.{same_Some}
use Rattle.base_types.specs.Seal.{Blocks, sha256}
use Rattle.disk_contract.specs.declared.event.Event.{Event}
use Rattle.disk_contract.specs.Cell.{cell_of}
use Rattle.disk_contract.specs.Crash.{IsHonest}
use Rattle.layout_geometry.specs.Geometry.{Geometry, ring_block, data_start, bitmap_start}
use Rattle.layout_journal.specs.declared.header.Header.{Header}
use Rattle.layout_journal.specs.declared.entry.Entry.{Entry}
use Rattle.layout_journal.specs.Layout.{header_of, commit_of, descriptor_of, unescaped}
use Rattle.layout_journal.specs.Run.{Newest, Record, heads, places, commit_says, descriptor_says, Fits, IsWhole, AreConsecutive, AreWhole, AreLetIn, IsRun, entries_fit, names_block, payload_from, or_else, covered_by, otherwise, replayed, live_part}
use Rattle.crash_argument.specs.JournalLaws.{JournalLaws}
use Rattle.crash_argument.specs.Ledger.{HoldsUnder}
use Rattle.crash_argument.specs.Replay.{IsFound, found_map, IsOlder, HasHeaders, IsAsFound, Closes, IsClosing, IsReplaying, IsOpening}
use Rattle.crash_argument.proofs.log.Lists.{inspect}
use Rattle.crash_argument.proofs.theorem.Images.{honest_stands, idle_holds, ring_within, slot_within}
use Rattle.crash_argument.proofs.theorem.Core.{live_part_same, live_from, live_below}

-- a header's geometry is that of its disk, whose journal lies before the data
pub record IsGeometryOf (n : ℕ) (g : Geometry) : Type 0 where
  pub blocks : g.n ≡ n
  pub ring : 0 < g.j
  pub shape : data_start g ≤ g.n

-- this holds of each block that reads as a header
pub header_geometry : JournalLaws → (n : ℕ) (b : List ℕ) (h : Header) → header_of n b ≡ Some h → IsGeometryOf n h.geom
header_geometry laws n b h is =
    let bounds = laws.header_bounds n b h is in
    let sizes = laws.geometry_sizes h.geom bounds.geom in
    record { blocks = bounds.blocks; ring = sizes.0; shape = sizes.1 }

-- fresh blocks lie behind the slots
entries_high : JournalLaws → (g : Geometry) (r : Record) (i : ℕ) (e : Entry) → IsTrue (entries_fit g r) → slice_get r.fresh i ≡ Some e → 2 ≤ e.block
entries_high laws g r i e fit is = omega (arith, laws.fresh_data g r i e fit is)

-- a record is whole in two images that agree where it lies
module _ (laws : JournalLaws) (one two : Blocks) (h : Header) (ring : (p : ℕ) → two (ring_block h.geom p) ≡ one (ring_block h.geom p)) where
  -- where they agree behind the slots, a record that is whole in one is whole in the other
  whole_moves : ((b : ℕ) → 2 ≤ b → b < h.geom.n → two b ≡ one b) → (r : Record) → IsWhole one h r → IsWhole two h r
  whole_moves high r w = record {
    fit = w.fit;
    commit = ap (commit_of h.geom) (ring r.place) ∙ w.commit;
    descriptors = λ i lt. ap (descriptor_of h.geom) (ring (r.place + 1 + i)) ∙ w.descriptors i lt;
    payloads = λ i e is. subst (λ (x : List ℕ). Fits e x) (sym (ring (r.place + heads r + i))) (w.payloads i e is);
    fresh = λ late i e is. ap sha256 (high e.block (entries_high laws h.geom r i e w.fit is) (laws.fresh_below h.geom r i e w.fit is)) ∙ w.fresh late i e is;
  }

  -- and so are several
  all_move : ((b : ℕ) → 2 ≤ b → b < h.geom.n → two b ≡ one b) → (rs : List Record) → AreWhole one h rs → AreWhole two h rs
  all_move high [] w = tt
  all_move high (r ∷ rs) w = (whole_moves high r w.0, all_move high rs w.1)

  -- a payload reads the same
  payload_moves : (p : ℕ) (es : List Entry) (b : ℕ) → payload_from h.geom two p es b ≡ payload_from h.geom one p es b
  payload_moves p [] b = refl
  payload_moves p (e ∷ es) b = ap (λ x. if e.block == b then Some (unescaped e.kind x) else payload_from h.geom two (p + 1) es b) (ring p) ∙ ap (λ x. if e.block == b then Some (unescaped e.kind (one (ring_block h.geom p))) else x) (payload_moves (p + 1) es b)

  -- and what records leave in a block does too
  pub cover_moves : (rs : List Record) (o : Option (List ℕ)) (b : ℕ) → covered_by h.geom two o rs b ≡ covered_by h.geom one o rs b
  cover_moves [] o b = refl
  cover_moves (r ∷ rs) o b = ap (λ x. covered_by h.geom two (or_else x (if names_block r.fresh b then None else o)) rs b) (payload_moves (r.place + heads r) r.payloads b) ∙ cover_moves rs _ b

-- the number behind consecutive records
number_behind : (j n p : ℕ) (rs : List Record) (r : Record) → AreConsecutive j n p (rs ++ r ∷ []) → r.number ≡ n + length rs
number_behind j n p [] r c = c.0 ∙ omega arith
number_behind j n p (q ∷ rs) r c = number_behind j (n + 1) ((p + places q) % j) rs r c.2 ∙ omega arith

-- the same header over an image that agrees outside the slots
pub run_stays : JournalLaws → (at img : Blocks) (h : Header) (run : List Record) → ((p : ℕ) → ring_block h.geom p < h.geom.n) → ((b : ℕ) → 2 ≤ b → b < h.geom.n → img b ≡ at b) → IsRun at h run → IsRun img h run
run_stays laws at img h run inside same r = record {
  consecutive = r.consecutive;
  whole = all_move laws at img h (λ p. same (ring_block h.geom p) (omega arith) (inside p)) same run r.whole;
  let_in = r.let_in;
  within = r.within;
  longest = λ q can. r.longest q (record { next = can.next; whole = whole_moves laws img at h (λ p. sym (same (ring_block h.geom p) (omega arith) (inside p))) (λ b high within. sym (same b high within)) q can.whole; let_in = can.let_in; within = can.within });
}

-- the closed header over an image with the same ring
module _ (laws : JournalLaws) (at img : Blocks) (h closed : Header) (run : List Record) (c : Closes h closed run) (ring : (p : ℕ) → img (ring_block h.geom p) ≡ at (ring_block h.geom p)) where
  -- records up to its `sure` are whole under it, and it lets them in
  closed_whole : (n p : ℕ) (rs : List Record) → AreConsecutive h.geom.j n p rs → n + length rs ≡ closed.sure + 1 → AreWhole at h rs → AreWhole img closed rs × AreLetIn closed rs
  closed_whole n p [] seq len w = (tt, tt)
  closed_whole n p (r ∷ rs) seq len w =
      let rest = closed_whole (n + 1) ((p + places r) % h.geom.j) rs seq.2 (omega arith) w.1 in
      let old = w.0 in (
        (
          record {
            fit = subst (λ (g : Geometry). IsTrue (entries_fit g r)) (sym c.geom) old.fit;
            commit = ap (λ (g : Geometry). commit_of g (img (ring_block g r.place))) c.geom ∙ ap (commit_of h.geom) (ring r.place) ∙ old.commit ∙ ap (λ e. Some (commit_says e r)) (sym c.epoch);
            descriptors = λ i lt. ap (λ (g : Geometry). descriptor_of g (img (ring_block g (r.place + 1 + i)))) c.geom ∙ ap (descriptor_of h.geom) (ring (r.place + 1 + i)) ∙ old.descriptors i lt ∙ ap (λ e. Some (descriptor_says e r i)) (sym c.epoch);
            payloads = λ i e is. subst (λ (x : List ℕ). Fits e x) (sym (ap (λ (g : Geometry). img (ring_block g (r.place + heads r + i))) c.geom ∙ ring (r.place + heads r + i))) (old.payloads i e is);
            fresh = λ late i e is. absurd (omega (arith, late, seq.0, len));
          },
          rest.0,
        ),
        (λ _. omega (arith, seq.0, len), rest.1),
      )

  -- so it has the same run
  run_closed : IsRun at h run → IsRun img closed run
  run_closed r =
      let seq = subst (λ n. AreConsecutive h.geom.j n closed.at run) (sym c.start) (subst (λ p. AreConsecutive h.geom.j h.start p run) (sym c.place) r.consecutive) in
      let all = closed_whole h.start h.at run r.consecutive (sym c.sure) r.whole in
      record {
        consecutive = subst (λ (g : Geometry). AreConsecutive g.j closed.start closed.at run) (sym c.geom) seq;
        whole = all.0;
        let_in = all.1;
        within = omega (arith, r.within, ap (λ (g : Geometry). g.j) c.geom);
        longest = λ q can. absurd (omega (arith, can.let_in c.is_closed, number_behind closed.geom.j closed.start closed.at run q can.next, c.start, c.sure));
      }

  -- what it then holds, where the blocks that the run doesn't cover are as they were
  held_closed : (n slot : ℕ) → data_start h.geom ≤ h.geom.n → Newest n img slot closed → IsRun at h run → ((b : ℕ) → bitmap_start h.geom ≤ b → b < h.geom.n → covered_by h.geom at None run b ≡ None → img b ≡ at b) → HoldsUnder n h.geom img (found_map at h run)
  held_closed n slot shape newest r same = record {
    held = record {
      slot = slot;
      header = closed;
      run = run;
      newest = newest;
      is_run = run_closed r;
      each = λ b. subst (λ (g : Geometry). found_map at h run b ≡ live_part g (replayed g img run) b) (sym c.geom) (live_part_same h.geom (replayed h.geom at run) (replayed h.geom img run) shape (λ b live. agree b (live_from h.geom (replayed h.geom at run) b live) (live_below h.geom (replayed h.geom at run) b live)) b);
    };
    geom = c.geom;
  }
    where
      agree : (b : ℕ) → bitmap_start h.geom ≤ b → b < h.geom.n → replayed h.geom img run b ≡ replayed h.geom at run b
      agree b low within = ⊎_elim
          (λ none. ap (λ o. otherwise o (img b)) (cover_moves laws at img h ring run None b ∙ none) ∙ same b low within none ∙ sym (ap (λ o. otherwise o (at b)) none))
          (λ some. ap (λ o. otherwise o (img b)) (cover_moves laws at img h ring run None b ∙ some.1) ∙ sym (ap (λ o. otherwise o (at b)) some.1))
          (inspect (covered_by h.geom at None run b))

module _ (laws : JournalLaws) (n : ℕ) (base : Blocks) (log : List Event) (img : Blocks) (honest : IsHonest n base log img) where
  -- where nothing is pending, an honest image holds what is settled
  pub idle_is : (b : ℕ) → b < n → (cell_of base log b).pending ≡ [] → img b ≡ (cell_of base log b).settled
  idle_is b within idle = idle_holds (cell_of base log b) (img b) idle (honest_stands n base log img honest b within)

  -- so a block that is as it was found holds what was found
  found_is : (at : Blocks) (b : ℕ) → b < n → IsAsFound (cell_of base log) at b → img b ≡ at b
  found_is at b within f = idle_is b within f.idle ∙ f.settled

  -- the newest header is one of two
  newest_of : (slot : ℕ) (h next : Header) → ((b : ℕ) → b < 2 → b < n) → HasHeaders n (cell_of base log) slot h next → Newest n img slot h ⊎ Newest n img (1 - slot) next
  newest_of slot h next low a = ⊎_elim none some (inspect (header_of n (img (1 - slot))))
    where
      here : header_of n (img slot) ≡ Some h
      here = ap (header_of n) (idle_is slot (low slot a.is_slot) a.alone) ∙ a.stands

      none : header_of n (img (1 - slot)) ≡ None → Newest n img slot h ⊎ Newest n img (1 - slot) next
      none e = inl (record { is_slot = a.is_slot; stands = here; other = λ k is. cc })

      some : (k : Header) × (header_of n (img (1 - slot)) ≡ Some k) → Newest n img slot h ⊎ Newest n img (1 - slot) next
      some p =
          let stands = ⊎_elim (λ s. s) (λ q. absurd (q.1 (laws.header_sealed n _ p.0 p.1))) (honest_stands n base log img honest (1 - slot) (low (1 - slot) (omega arith))) in
          ⊎_elim (λ old. inl (record { is_slot = a.is_slot; stands = here; other = λ k is. subst (λ (f : Header). IsOlder slot h f) (same_Some _ _ (sym p.1 ∙ is)) old }))
          (λ new. inr (record { is_slot = omega arith; stands = p.1 ∙ ap (λ (f : Header). Some f) new; other = λ k is. inl (subst (λ (f : Header). f.turn < next.turn) (same_Some _ _ (sym here ∙ ap (λ s. header_of n (img s)) (sym (omega (arith, a.is_slot))) ∙ is)) a.newer) }))
          (a.other _ p.0 stands p.1)

  -- where the journal lies
  module _ (h : Header) (g : IsGeometryOf n h.geom) where
    -- the ring lies within the header's blocks
    pub place_in : (p : ℕ) → ring_block h.geom p < h.geom.n
    place_in p = ring_within h.geom p g.ring g.shape

    -- so on the disk
    pub place_on : (p : ℕ) → ring_block h.geom p < n
    place_on p = omega (arith, place_in p, g.blocks)

    -- and the slots do too
    pub slot_on : (b : ℕ) → b < 2 → b < n
    slot_on b low = omega (arith, slot_within h.geom b g.shape low, g.blocks)

    -- as all of the header's blocks
    pub on : (b : ℕ) → b < h.geom.n → b < n
    on b low = omega (arith, low, g.blocks)

  -- while the run is being closed, the image holds what was found
  pub closing_holds : (slot : ℕ) (at : Blocks) (h closed : Header) (run : List Record) → IsFound n at slot h run → IsClosing n (cell_of base log) at slot h closed run → HoldsUnder n h.geom img (found_map at h run)
  closing_holds slot at h closed run found c =
      let g = header_geometry laws n _ h found.newest.stands in
      let same = λ (b : ℕ) (high : 2 ≤ b) (within : b < h.geom.n). found_is at b (on h g b within) (c.rest b high) in
      ⊎_elim (λ old. record {
        geom = refl;
        held = record {
          slot = slot;
          header = h;
          run = run;
          newest = old;
          is_run = run_stays laws at img h run (place_in h g) same found.is_run;
          each = λ b. live_part_same h.geom (replayed h.geom at run) (replayed h.geom img run) g.shape (λ b live. ap (λ o. otherwise o (img b)) (cover_moves laws at img h (λ p. same (ring_block h.geom p) (omega arith) (place_in h g p)) run None b) ∙ ap (otherwise (covered_by h.geom at None run b)) (same b (omega (arith, live_from h.geom (replayed h.geom at run) b live)) (live_below h.geom (replayed h.geom at run) b live))) b;
        };
      })
      (λ new. (held_closed laws) at img h closed run c.closes (λ p. same (ring_block h.geom p) (omega arith) (place_in h g p)) n (1 - slot) g.shape new found.is_run (λ b low within none. same b (omega arith) within))
      (newest_of slot h closed (slot_on h g) c.headers)

  -- and while its blocks are written home
  pub replaying_holds : (slot old_slot : ℕ) (at : Blocks) (h closed : Header) (run : List Record) → IsFound n at old_slot h run → IsReplaying n (cell_of base log) at slot h closed run → HoldsUnder n h.geom img (found_map at h run)
  replaying_holds slot old_slot at h closed run found c =
      (held_closed laws) at img h closed run c.closes (λ p. found_is at (ring_block h.geom p) (place_on h g p) (c.ring p)) n slot g.shape newest found.is_run (λ b low within none. found_is at b (on h g b within) (c.uncovered b low none))
    where
      g : IsGeometryOf n h.geom
      g = header_geometry laws n _ h found.newest.stands

      newest : Newest n img slot closed
      newest = record {
        is_slot = c.is_slot;
        stands = ap (header_of n) (idle_is slot (slot_on h g slot c.is_slot) c.alone) ∙ c.stands;
        other = λ k is. c.other _ k (⊎_elim (λ s. s) (λ q. absurd (q.1 (laws.header_sealed n _ k is))) (honest_stands n base log img honest (1 - slot) (slot_on h g (1 - slot) (omega arith)))) is;
      }

  -- and while the journal is opened under a new epoch
  pub opening_holds : (slot old_slot : ℕ) (at : Blocks) (h closed fresh : Header) (run : List Record) → IsFound n at old_slot h run → IsOpening n (cell_of base log) at slot h closed fresh run → HoldsUnder n h.geom img (found_map at h run)
  opening_holds slot old_slot at h closed fresh run found c = ⊎_elim under_closed under_fresh (newest_of slot closed fresh (slot_on h g) c.headers)
    where
      g : IsGeometryOf n h.geom
      g = header_geometry laws n _ h found.newest.stands

      ring : (p : ℕ) → img (ring_block h.geom p) ≡ at (ring_block h.geom p)
      ring p = found_is at (ring_block h.geom p) (place_on h g p) (c.replayed.ring p)

      at_home : (b : ℕ) → bitmap_start h.geom ≤ b → b < h.geom.n → img b ≡ replayed h.geom at run b
      at_home b low within = idle_is b (on h g b within) (c.replayed.home b low).1 ∙ (c.replayed.home b low).0

      under_closed : Newest n img slot closed → HoldsUnder n h.geom img (found_map at h run)
      under_closed newest = held_closed laws at img h closed run c.replayed.closes ring n slot g.shape newest found.is_run (λ b low within none. at_home b low within ∙ ap (λ o. otherwise o (at b)) none)

      under_fresh : Newest n img (1 - slot) fresh → HoldsUnder n h.geom img (found_map at h run)
      under_fresh newest = record {
        geom = c.geom;
        held = record {
          slot = 1 - slot;
          header = fresh;
          run = [];
          newest = newest;
          is_run = record { consecutive = tt; whole = tt; let_in = tt; within = omega arith; longest = λ q can. omega (arith, c.new_epoch q.place (commit_says fresh.epoch q) (sym (ap (λ (g : Geometry). commit_of g (img (ring_block g q.place))) c.geom ∙ ap (commit_of h.geom) (ring q.place)) ∙ can.whole.commit)) };
          each = λ b. subst (λ (g : Geometry). found_map at h run b ≡ live_part g (replayed g img []) b) (sym c.geom) (live_part_same h.geom (replayed h.geom at run) img g.shape (λ b live. at_home b (live_from h.geom (replayed h.geom at run) b live) (live_below h.geom (replayed h.geom at run) b live)) b);
        };
      }
