-- The three stages of a mount that replays can be met: where a run was found, the events of such a mount make them.
use Rattle.std.proofs.Common.{◌≡◌, ◌≢◌, ◌⊎◌, inl, inr, ⊎_elim, ℕ, ◌+◌, ◌-◌, ◌<◌, ◌≤◌, List, [], ◌∷◌, ◌++◌, take, Option, Some, None, refl, sym, ◌∙◌, ap, subst, arith}
use Rattle.std.proofs.lemmas.Bool.{cases_lt}
use Rattle.std.proofs.lemmas.Option.{same_Some}
use Rattle.base_types.specs.Seal.{Blocks}
use Rattle.disk_contract.specs.declared.event.Event.{Event}
use Rattle.disk_contract.specs.declared.event.Event.TheVariants.{Wrote}
use Rattle.disk_contract.specs.Cell.{Cell, after_all, cell_of}
use Rattle.layout_geometry.specs.Geometry.{Geometry, ring_block, bitmap_start}
use Rattle.layout_journal.specs.declared.header.Header.{Header}
use Rattle.layout_journal.specs.declared.record.Commit.{Commit}
use Rattle.layout_journal.specs.Layout.{header_of, commit_of, IsWithinDisk}
use Rattle.layout_journal.specs.Spelling.{header_block, IsHeader}
use Rattle.layout_journal.specs.Run.{Record, AreWhole, replayed, covered_by, otherwise}
use Rattle.crash_argument.specs.JournalLaws.{JournalLaws}
use Rattle.crash_argument.specs.Ledger.{StandsIn}
use Rattle.crash_argument.specs.LastWrites.{AvoidsBlock}
use Rattle.crash_argument.specs.Opening.{last_number, opening_header}
use Rattle.crash_argument.specs.Replay.{IsFound, IsAsFound, IsOlder, Closes, IsClosing, IsReplaying, IsOpening}
use Rattle.crash_argument.specs.ReplayMade.{closing_header, closing_events, closed_events, replay_events, opening_events, reopening_events}
use Rattle.crash_argument.proofs.log.Events.{after_all-append}
use Rattle.crash_argument.proofs.theorem.Images.{in_ring}
use Rattle.crash_argument.proofs.log.Lists.{inspect}
use Rattle.crash_argument.proofs.mount.HomeWrites.{idle, pending, own_write, other_write, own_home, other_home, left_alone, avoids_take, before_home, uncovered_home, at_home, none_behind}

-- what is in a block where one write is pending is what is settled, or the bytes of that write
stands_pending : (c : Cell) (s x y : List ℕ) (t : ℕ) → c ≡ pending s t y → StandsIn c x → (x ≡ s) ⊎ (x ≡ y)
stands_pending c s x y t is stands = ⊎_elim inl (λ r. ⊎_elim inr (λ none. absurd none) r) (subst (λ (d : Cell). StandsIn d x) is stands)

-- and where none is, what is settled
stands_idle : (c : Cell) (s x : List ℕ) → c ≡ idle s → StandsIn c x → x ≡ s
stands_idle c s x is stands = ⊎_elim (λ e. e) (λ none. absurd none) (subst (λ (d : Cell). StandsIn d x) is stands)

-- a block that holds what was found, with nothing pending, is as it was found
as_found : (cells : ℕ → Cell) (at : Blocks) (b : ℕ) → cells b ≡ idle (at b) → IsAsFound cells at b
as_found cells at b is = record { settled = ap (λ (c : Cell). c.settled) is; idle = ap (λ (c : Cell). c.pending) is }

-- a mount's blocks begin so: the header that closes the run lies in one slot, an older one or none in the other, and all others are as they were found
module _ (laws : JournalLaws) (n : ℕ) (at : Blocks) (h closed : Header) (run : List Record) (whole : AreWhole at h run) (closes : Closes h closed run) (within : IsWithinDisk n h)
    (start : List Event) (slot other : ℕ) (own beside : List ℕ) (ticket : ℕ) (low : slot < 2) (other_is : 1 - slot ≡ other)
    (own_is : (es : List Event) → cell_of at (start ++ es) slot ≡ after_all slot (idle own) es)
    (beside_is : (es : List Event) → cell_of at (start ++ es) other ≡ after_all other (idle beside) es)
    (rest_is : (b : ℕ) → 2 ≤ b → (es : List Event) → cell_of at (start ++ es) b ≡ after_all b (idle (at b)) es)
    (stands : header_of n own ≡ Some closed) (older : (k : Header) → header_of n beside ≡ Some k → IsOlder slot closed k) where
  -- what the run leaves in a block, if it covers it
  abbrev left : ℕ → Option (List ℕ)
  left = covered_by h.geom at None run

  -- the writes of blocks to their places
  abbrev homes : List Event
  homes = replay_events at ticket h run

  -- none of them is of a block before the bitmap
  avoids_low : (b : ℕ) → b < bitmap_start h.geom → AvoidsBlock b homes
  avoids_low b under = before_home left ticket (bitmap_start h.geom) (h.geom.n - bitmap_start h.geom) b under

  -- such as the slots
  avoids_slot : (b : ℕ) → b < 2 → AvoidsBlock b homes
  avoids_slot b under = avoids_low b (omega (arith, under))

  -- and the ring
  avoids_ring : (place : ℕ) → AvoidsBlock (ring_block h.geom place) homes
  avoids_ring place = avoids_low (ring_block h.geom place) (in_ring h.geom place (laws.geometry_sizes h.geom within.geom).0)

  -- and none is of a block that the run doesn't cover
  avoids_uncovered : (b : ℕ) → left b ≡ None → AvoidsBlock b homes
  avoids_uncovered b none = uncovered_home left ticket (bitmap_start h.geom) (h.geom.n - bitmap_start h.geom) b none

  -- at each moment of these writes the run is being replayed
  replaying_then : (k : ℕ) → IsReplaying n (cell_of at (start ++ take k homes)) at slot h closed run
  replaying_then k = record {
    closes = closes;
    is_slot = low;
    stands = ap (λ (c : Cell). header_of n c.settled) own_then ∙ stands;
    alone = ap (λ (c : Cell). c.pending) own_then;
    other = λ x q st reads_as. older q (sym (ap (header_of n) (stands_idle _ beside x (ap (cell_of at (start ++ take k homes)) other_is ∙ beside_is (take k homes) ∙ still other beside (avoids_slot other (omega arith))) st)) ∙ reads_as);
    ring = λ place. rest (ring_block h.geom place) (omega arith) (avoids_ring place);
    uncovered = λ b from none. rest b (omega arith) (avoids_uncovered b none);
  }
    where
      still : (b : ℕ) (x : List ℕ) → AvoidsBlock b homes → after_all b (idle x) (take k homes) ≡ idle x
      still b x avoids = left_alone b x (take k homes) (avoids_take b k homes avoids)

      own_then : cell_of at (start ++ take k homes) slot ≡ idle own
      own_then = own_is (take k homes) ∙ still slot own (avoids_slot slot low)

      rest : (b : ℕ) → 2 ≤ b → AvoidsBlock b homes → IsAsFound (cell_of at (start ++ take k homes)) at b
      rest b high avoids = as_found (cell_of at (start ++ take k homes)) at b (rest_is b high (take k homes) ∙ still b (at b) avoids)

  -- with all of them at home, a header of a new epoch is written beside it
  module _ (later : ℕ) (fresh : Header) (reads_fresh : header_of n (header_block fresh) ≡ Some fresh) (same_geom : fresh.geom ≡ h.geom) (newer : closed.turn < fresh.turn)
      (epochs : (place : ℕ) (c : Commit) → commit_of h.geom (at (ring_block h.geom place)) ≡ Some c → c.epoch < fresh.epoch) where
    -- the write of that header
    abbrev last : List Event
    last = Wrote later other (header_block fresh) ∷ []

    -- all cells at the end
    abbrev cells : ℕ → Cell
    cells = cell_of at (start ++ (homes ++ last))

    -- another block is as the writes to places leave it
    behind : (b : ℕ) (x y : List ℕ) → other ≢ b → after_all b (idle x) homes ≡ idle y → after_all b (idle x) (homes ++ last) ≡ idle y
    behind b x y apart is = after_all-append b (idle x) homes last ∙ ap (λ (c : Cell). after_all b c last) is ∙ other_write later other b y (header_block fresh) apart

    -- the closed header is in its slot
    own_last : cells slot ≡ idle own
    own_last = own_is (homes ++ last) ∙ behind slot own own (λ e. omega arith) (left_alone slot own homes (avoids_slot slot low))

    -- and the write of the new one is pending in the other slot
    there : cells other ≡ pending beside later (header_block fresh)
    there =
        beside_is (homes ++ last) ∙ after_all-append other (idle beside) homes last
        ∙ ap (λ (c : Cell). after_all other c last) (left_alone other beside homes (avoids_slot other (omega arith)))
        ∙ own_write later other beside (header_block fresh)

    -- a block behind the slots is as the writes to places leave it
    placed : (b : ℕ) (y : List ℕ) → 2 ≤ b → after_all b (idle (at b)) homes ≡ idle y → cells b ≡ idle y
    placed b y high is = rest_is b high (homes ++ last) ∙ behind b (at b) y (λ e. omega arith) is

    -- each block behind the journal is at home
    home : (b : ℕ) → bitmap_start h.geom ≤ b → cells b ≡ idle (replayed h.geom at run b)
    home b from = ⊎_elim uncovered (λ some. ⊎_elim (covered some.0 some.1) (λ over. uncovered (none_behind laws at h run b whole over)) (cases_lt b h.geom.n)) (inspect (left b))
      where
        uncovered : left b ≡ None → cells b ≡ idle (replayed h.geom at run b)
        uncovered none = placed b (at b) (omega arith) (left_alone b (at b) homes (avoids_uncovered b none)) ∙ ap (λ o. idle (otherwise o (at b))) (sym none)

        covered : (x : List ℕ) → left b ≡ Some x → b < h.geom.n → cells b ≡ idle (replayed h.geom at run b)
        covered x is under =
            placed b x (omega arith) (at_home left ticket (bitmap_start h.geom) (h.geom.n - bitmap_start h.geom) b (at b) x is from (omega arith))
            ∙ ap (λ o. idle (otherwise o (at b))) (sym is)

    -- so the journal is being opened
    opening_then : IsOpening n cells at slot h closed fresh run
    opening_then = record {
      replayed = record {
        closes = closes;
        ring = λ place. as_found cells at (ring_block h.geom place) (placed (ring_block h.geom place) (at (ring_block h.geom place)) (omega arith) (left_alone (ring_block h.geom place) (at (ring_block h.geom place)) homes (avoids_ring place)));
        home = λ b from. (ap (λ (c : Cell). c.settled) (home b from), ap (λ (c : Cell). c.pending) (home b from));
      };
      headers = record {
        is_slot = low;
        stands = ap (λ (c : Cell). header_of n c.settled) own_last ∙ stands;
        alone = ap (λ (c : Cell). c.pending) own_last;
        other = λ x q st reads_as. ⊎_elim
            (λ e. inl (older q (sym (ap (header_of n) e) ∙ reads_as)))
            (λ e. inr (same_Some _ _ (sym reads_as ∙ ap (header_of n) e ∙ reads_fresh)))
            (stands_pending _ beside x (header_block fresh) later (ap cells other_is ∙ there) st);
        newer = newer;
      };
      geom = same_geom;
      new_epoch = epochs;
    }

-- what the laws of the journal's blocks say: a header that can be written reads back
module _ (laws : JournalLaws) (reads : (h : Header) → IsHeader h → header_of h.geom.n (header_block h) ≡ Some h)
    (n : ℕ) (at : Blocks) (slot ticket : ℕ) (h : Header) (run : List Record) (found : IsFound n at slot h run) where
  -- the header that was found lies within the disk
  within : IsWithinDisk n h
  within = laws.header_bounds n (at slot) h found.newest.stands

  -- so a header of its geometry that can be written reads back from a disk of this size
  reads_here : (k : Header) → k.geom ≡ h.geom → IsHeader k → header_of n (header_block k) ≡ Some k
  reads_here k same is = subst (λ (m : ℕ). header_of m (header_block k) ≡ Some k) (ap (λ (g : Geometry). g.n) same ∙ within.blocks) (reads k is)

  module _ (is : IsHeader (closing_header h run)) where
    -- the block of the closed header
    abbrev block : List ℕ
    block = header_block (closing_header h run)

    -- which closes the run
    closes : Closes h (closing_header h run) run
    closes = record { geom = refl; epoch = refl; start = refl; place = refl; is_closed = refl; sure = omega (arith, within.first) }

    -- First it is written.
    pub closing_met : IsClosing n (cell_of at (closing_events ticket slot h run)) at slot h (closing_header h run) run
    closing_met = record {
      headers = record {
        is_slot = found.newest.is_slot;
        stands = ap (λ (c : Cell). header_of n c.settled) here ∙ found.newest.stands;
        alone = ap (λ (c : Cell). c.pending) here;
        other = λ x k stands reads_as. ⊎_elim
            (λ e. inl (found.newest.other k (sym (ap (header_of n) e) ∙ reads_as)))
            (λ e. inr (same_Some _ _ (sym reads_as ∙ ap (header_of n) e ∙ reads_here (closing_header h run) refl is)))
            (stands_pending _ (at (1 - slot)) x block ticket (own_write ticket (1 - slot) (at (1 - slot)) block) stands);
        newer = omega arith;
      };
      closes = closes;
      rest = λ b high. as_found (cell_of at (closing_events ticket slot h run)) at b (other_write ticket (1 - slot) b (at b) block (λ e. omega arith));
    }
      where
        here : cell_of at (closing_events ticket slot h run) slot ≡ idle (at slot)
        here = other_write ticket (1 - slot) slot (at slot) block (λ e. omega (arith, found.newest.is_slot))

    -- a header that is found in the other slot is older than the closed one
    older : (k : Header) → header_of n (at slot) ≡ Some k → IsOlder (1 - slot) (closing_header h run) k
    older k there = inl (subst (λ (f : Header). f.turn < h.turn + 1) (same_Some _ _ (sym found.newest.stands ∙ there)) (omega arith))

    -- once it is noticed, blocks are written home; this holds at each moment then
    pub replaying_met : (k : ℕ) → IsReplaying n (cell_of at (closed_events ticket slot h run ++ take k (replay_events at (ticket + 1) h run))) at (1 - slot) h (closing_header h run) run
    replaying_met k =
        replaying_then laws n at h (closing_header h run) run found.is_run.whole closes within (closed_events ticket slot h run) (1 - slot) slot block (at slot) (ticket + 1) (omega arith) (omega (arith, found.newest.is_slot))
        (λ es. own_home ticket (1 - slot) (at (1 - slot)) block es) (λ es. other_home ticket (1 - slot) slot (at slot) block es (λ e. omega (arith, found.newest.is_slot)))
        (λ b high es. other_home ticket (1 - slot) b (at b) block es (λ e. omega arith)) (reads_here (closing_header h run) refl is) older k

    -- with all of them at home, a header of a new epoch is written
    pub opening_met : (later greatest_epoch : ℕ) → IsHeader (opening_header (closing_header h run) (last_number h run) greatest_epoch) → ((place : ℕ) (c : Commit) → commit_of h.geom (at (ring_block h.geom place)) ≡ Some c → c.epoch ≤ greatest_epoch)
        → IsOpening n (cell_of at (opening_events at ticket later slot h run greatest_epoch)) at (1 - slot) h (closing_header h run) (opening_header (closing_header h run) (last_number h run) greatest_epoch) run
    opening_met later greatest_epoch is_fresh epochs =
        opening_then laws n at h (closing_header h run) run found.is_run.whole closes within (closed_events ticket slot h run) (1 - slot) slot block (at slot) (ticket + 1) (omega arith) (omega (arith, found.newest.is_slot))
        (λ es. own_home ticket (1 - slot) (at (1 - slot)) block es) (λ es. other_home ticket (1 - slot) slot (at slot) block es (λ e. omega (arith, found.newest.is_slot)))
        (λ b high es. other_home ticket (1 - slot) b (at b) block es (λ e. omega arith)) (reads_here (closing_header h run) refl is) older
        later (opening_header (closing_header h run) (last_number h run) greatest_epoch) (reads_here _ refl is_fresh) refl (omega arith) (λ place c there. omega (arith, epochs place c there))

  -- the same where the newest header closes the run already
  module _ (closed : Closes h h run) where
    -- at each moment of these writes the run is being replayed
    pub replaying_closed : (k : ℕ) → IsReplaying n (cell_of at (take k (replay_events at ticket h run))) at slot h h run
    replaying_closed k = replaying_then laws n at h h run found.is_run.whole closed within [] slot (1 - slot) (at slot) (at (1 - slot)) ticket found.newest.is_slot refl (λ es. refl) (λ es. refl) (λ b high es. refl) found.newest.stands found.newest.other k

    -- then a header of a new epoch is written beside it
    pub opening_closed : (later greatest_epoch : ℕ) → IsHeader (opening_header h (last_number h run) greatest_epoch) → ((place : ℕ) (c : Commit) → commit_of h.geom (at (ring_block h.geom place)) ≡ Some c → c.epoch ≤ greatest_epoch)
        → IsOpening n (cell_of at (reopening_events at ticket later slot h run greatest_epoch)) at slot h h (opening_header h (last_number h run) greatest_epoch) run
    opening_closed later greatest_epoch is_fresh epochs =
        opening_then laws n at h h run found.is_run.whole closed within [] slot (1 - slot) (at slot) (at (1 - slot)) ticket found.newest.is_slot refl (λ es. refl) (λ es. refl) (λ b high es. refl) found.newest.stands found.newest.other
        later (opening_header h (last_number h run) greatest_epoch) (reads_here _ refl is_fresh) refl (omega arith) (λ place c there. omega (arith, epochs place c there))
