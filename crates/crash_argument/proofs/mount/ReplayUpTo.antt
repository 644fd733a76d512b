-- A replay block by block: from the header that closes the run to the journal that may be opened.
use Rattle.std.proofs.Common.{◌≡◌, ◌≢◌, ◌⊎◌, inl, inr, ⊎_elim, ℕ, ◌+◌, ◌-◌, ◌<◌, ◌≤◌, List, [], Option, Some, None, refl, sym, ◌∙◌, ap, subst, arith}
use Rattle.std.proofs.lemmas.Bool.{cases_eq, cases_lt}
use mathlib.Core.Path.{fun_ext}
use Rattle.base_types.specs.Seal.{Blocks}
use Rattle.disk_contract.specs.declared.event.Event.{Event}
use Rattle.disk_contract.specs.Cell.{Cell, cell_of, IsNoticed}
use Rattle.layout_geometry.specs.Geometry.{Geometry, bitmap_start}
use Rattle.layout_journal.specs.declared.header.Header.{Header}
use Rattle.layout_journal.specs.Layout.{header_of, commit_of, descriptor_of}
use Rattle.layout_journal.specs.Run.{Newest, Record, covered_by, otherwise, replayed, live_part}
use Rattle.crash_argument.specs.JournalLaws.{JournalLaws}
use Rattle.crash_argument.specs.Mounting.{IsReplayedUpTo}
use Rattle.crash_argument.specs.Opening.{HasNoEpochAbove, IsReadyToOpen, settled, AddsWaited}
use Rattle.crash_argument.specs.PipelineData.{IsSettledIn}
use Rattle.crash_argument.specs.Replay.{IsFound, Closes, IsReplaying, IsReplayed, found_map}
use Rattle.crash_argument.proofs.log.Adds.{stands_settled}
use Rattle.crash_argument.proofs.theorem.Core.{live_part_same, live_from}
use Rattle.crash_argument.proofs.mount.HomeWrites.{none_behind}
use Rattle.crash_argument.proofs.mount.OpeningSteps.{IsLeft, own_settled, other_left}
use Rattle.crash_argument.proofs.mount.ReplayStages.{IsGeometryOf, header_geometry}
use Rattle.crash_argument.proofs.mount.ReplaySteps.{replayed_waited}

-- where the newest header closes its run already, the replay begins
pub upto_begins : (n : ℕ) (cells : ℕ → Cell) (slot : ℕ) (h : Header) (run : List Record) → ((b : ℕ) → (cells b).pending ≡ []) → IsFound n (settled cells) slot h run → Closes h h run
    → IsReplayedUpTo n cells (settled cells) slot h h run (bitmap_start h.geom)
upto_begins n cells slot h run idle found closes = record {
  replaying = record {
    closes = closes;
    is_slot = found.newest.is_slot;
    stands = found.newest.stands;
    alone = idle slot;
    other = λ x k st is. found.newest.other k (ap (header_of n) (sym (stands_settled _ x (idle (1 - slot)) st)) ∙ is);
    ring = λ place. record { settled = refl; idle = idle _ };
    uncovered = λ b low none. record { settled = refl; idle = idle b };
  };
  idle = idle;
  placed = λ b low high. absurd (omega (arith, low, high));
  headers = λ s k two is. inr is;
}

-- a block that the run doesn't cover is at its place
in_place : (n : ℕ) (cells : ℕ → Cell) (at : Blocks) (slot b : ℕ) (h closed : Header) (run : List Record) → IsReplaying n cells at slot h closed run → bitmap_start h.geom ≤ b → covered_by h.geom at None run b ≡ None → (cells b).settled ≡ replayed h.geom at run b
in_place n cells at slot b h closed run r low none = (r.uncovered b low none).settled ∙ sym (ap (λ (o : Option (List ℕ)). otherwise o (at b)) none)

-- a number below the next is one below this, or this
below_next : (c b : ℕ) → c < b + 1 → (c < b) ⊎ (c ≡ b)
below_next c b lt = grind arith

-- so the replay passes it
pub upto_passes : (n : ℕ) (cells : ℕ → Cell) (at : Blocks) (slot b : ℕ) (h closed : Header) (run : List Record) → IsReplayedUpTo n cells at slot h closed run b → covered_by h.geom at None run b ≡ None → IsReplayedUpTo n cells at slot h closed run (b + 1)
upto_passes n cells at slot b h closed run r none = record {
  replaying = r.replaying;
  idle = r.idle;
  placed = λ c low lt. ⊎_elim (λ old. r.placed c low old) (λ same. in_place n cells at slot c h closed run r.replaying low (ap (covered_by h.geom at None run) same ∙ none)) (below_next c b lt);
  headers = r.headers;
}

-- A block that the run covers, written and noticed.
module _ (laws : JournalLaws) (n : ℕ) (base at : Blocks) (slot old_slot : ℕ) (h closed : Header) (run : List Record) (found : IsFound n at old_slot h run)
    (block : ℕ) (x : List ℕ) (low : bitmap_start h.geom ≤ block) (covered : covered_by h.geom at None run block ≡ Some x) where
  -- the replay goes on behind it
  pub upto_waited : (log new : List Event) → IsReplayedUpTo n (cell_of base log) at slot h closed run block → (w : AddsWaited block x log new) → IsNoticed w.ticket new → IsReplayedUpTo n (cell_of base new) at slot h closed run (block + 1)
  upto_waited log new r w noticed = record {
    replaying = (replayed_waited laws n base at slot old_slot h closed run found block x x low covered log new r.replaying w).0;
    idle = λ b. ⊎_elim (λ same. ap (λ c. (cell_of base new c).pending) (sym same) ∙ own.pending) (λ apart. (left b apart).idle) (cases_eq block b);
    placed = λ b from lt. ⊎_elim (λ same. ap (λ c. (cell_of base new c).settled) (sym same) ∙ own.settled ∙ sym (ap (λ (o : Option (List ℕ)). otherwise o (at block)) covered) ∙ ap (replayed h.geom at run) same)
        (λ apart. (left b apart).settled ∙ r.placed b from (omega (arith, lt, apart))) (cases_eq block b);
    headers = λ s k two is. r.headers s k two (sym (ap (header_of n) (left s (λ e. omega arith)).settled) ∙ is);
  }
    where
      own : IsSettledIn (cell_of base new block) x
      own = own_settled base log new block x w noticed

      left : (b : ℕ) → block ≢ b → IsLeft (cell_of base log b) (cell_of base new b)
      left b apart = other_left base log new block b x w apart (r.idle b)

-- behind the disk's last block the run is replayed
pub upto_ends : JournalLaws → (n : ℕ) (cells : ℕ → Cell) (at : Blocks) (slot old_slot upto : ℕ) (h closed : Header) (run : List Record) → IsFound n at old_slot h run → IsReplayedUpTo n cells at slot h closed run upto → h.geom.n ≤ upto → IsReplayed cells at h closed run
upto_ends laws n cells at slot old_slot upto h closed run found r all = record {
  closes = r.replaying.closes;
  ring = r.replaying.ring;
  home = λ b low. (⊎_elim (λ lt. r.placed b low lt) (λ past. in_place n cells at slot b h closed run r.replaying low (none_behind laws at h run b found.is_run.whole (omega (arith, past, all)))) (cases_lt b upto), r.idle b);
}

-- the journal may be opened then
pub upto_opens : JournalLaws → (n : ℕ) (cells : ℕ → Cell) (at : Blocks) (slot old_slot upto epoch : ℕ) (h closed : Header) (run : List Record) → IsFound n at old_slot h run → IsReplayedUpTo n cells at slot h closed run upto → HasNoEpochAbove h.geom at epoch → IsReadyToOpen cells slot closed epoch
upto_opens laws n cells at slot old_slot upto epoch h closed run found r none = record {
  idle = r.idle;
  is_newest = subst (λ (m : ℕ). Newest m (settled cells) slot closed) (sym size) (record {
    is_slot = r.replaying.is_slot;
    stands = r.replaying.stands;
    other = λ k is. r.replaying.other _ k (inl refl) is;
  });
  epochs = subst (λ (g : Geometry). HasNoEpochAbove g (settled cells) epoch) (sym r.replaying.closes.geom) (record {
    headers = λ s k two is. ⊎_elim (λ same. subst (λ (f : Header). f.epoch ≤ epoch) (sym same) closed_low)
        (λ old. none.headers s k two (ap (λ (m : ℕ). header_of m (at s)) lies.blocks ∙ old)) (r.headers s k two (sym (ap (λ (m : ℕ). header_of m (cells s).settled) lies.blocks) ∙ is));
    commits = λ place c is. none.commits place c (sym (ap (commit_of h.geom) (r.replaying.ring place).settled) ∙ is);
    descriptors = λ place d is. none.descriptors place d (sym (ap (descriptor_of h.geom) (r.replaying.ring place).settled) ∙ is);
  });
}
  where
    lies : IsGeometryOf n h.geom
    lies = header_geometry laws n _ h found.newest.stands

    size : closed.geom.n ≡ n
    size = ap (λ (g : Geometry). g.n) r.replaying.closes.geom ∙ lies.blocks

    closed_low : closed.epoch ≤ epoch
    closed_low = omega (arith, r.replaying.closes.epoch, none.headers old_slot h found.newest.is_slot (ap (λ (m : ℕ). header_of m (at old_slot)) lies.blocks ∙ found.newest.stands))

-- and what is settled is the map that was found
pub replayed_leaves : JournalLaws → (n : ℕ) (cells : ℕ → Cell) (at : Blocks) (old_slot : ℕ) (h closed : Header) (run : List Record) → IsFound n at old_slot h run → IsReplayed cells at h closed run → live_part closed.geom (settled cells) ≡ found_map at h run
replayed_leaves laws n cells at old_slot h closed run found r =
    ap (λ (g : Geometry). live_part g (settled cells)) r.closes.geom
    ∙ sym (fun_ext (λ b. live_part_same h.geom (replayed h.geom at run) (settled cells) (header_geometry laws n _ h found.newest.stands).shape (λ c live. (r.home c (live_from h.geom (replayed h.geom at run) c live)).0) b))
