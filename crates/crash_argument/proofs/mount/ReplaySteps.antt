-- While a run is replayed, block by block, each honest image holds what was found.
use Rattle.std.proofs.Common.{◌≡◌, ◌≢◌, ⊎_elim, ℕ, ◌+◌, ◌-◌, ◌<◌, ◌≤◌, List, [], ◌∷◌, ◌++◌, length, Some, None, Err, refl, sym, ◌∙◌, ap, arith}
use Rattle.std.proofs.lemmas.Option.{none-some}
use Rattle.base_types.specs.Seal.{Blocks}
use Rattle.disk_contract.specs.declared.event.Event.{Event}
use Rattle.disk_contract.specs.declared.event.Event.TheVariants.{Noticed}
use Rattle.disk_contract.specs.declared.disk.DiskFault.{DiskFault}
use Rattle.disk_contract.specs.Cell.{cell_of}
use Rattle.disk_contract.specs.Crash.{IsHonest, Window}
use Rattle.disk_contract.specs.Disk.{AddsWrite}
use Rattle.layout_geometry.specs.Geometry.{ring_block, bitmap_start}
use Rattle.layout_journal.specs.declared.header.Header.{Header}
use Rattle.layout_journal.specs.Layout.{header_of}
use Rattle.layout_journal.specs.Run.{Record, covered_by}
use Rattle.crash_argument.specs.JournalLaws.{JournalLaws}
use Rattle.crash_argument.specs.Ledger.{HoldsUnder}
use Rattle.crash_argument.specs.Opening.{AddsWaited}
use Rattle.crash_argument.specs.Replay.{IsFound, IsAsFound, IsReplaying, found_map}
use Rattle.crash_argument.proofs.log.Adds.{Adds, Settles, others_stay, settles_one}
use Rattle.crash_argument.proofs.theorem.Images.{in_ring}
use Rattle.crash_argument.proofs.mount.Moments.{moments_waited, moments_failed}
use Rattle.crash_argument.proofs.mount.ReplayStages.{IsGeometryOf, header_geometry, replaying_holds}

module _ (laws : JournalLaws) (n : ℕ) (base at : Blocks) (slot old_slot : ℕ) (h closed : Header) (run : List Record) (found : IsFound n at old_slot h run)
    (block : ℕ) (x y : List ℕ) (low : bitmap_start h.geom ≤ block) (covered : covered_by h.geom at None run block ≡ Some y) where
  -- the run is being replayed
  abbrev Being : List Event → Type 0
  Being log = IsReplaying n (cell_of base log) at slot h closed run

  -- an image holds what was found
  abbrev Holds : Blocks → Type 0
  Holds img = HoldsUnder n h.geom img (found_map at h run)

  -- nor one that the run doesn't cover
  not_uncovered : (b : ℕ) → covered_by h.geom at None run b ≡ None → b ≢ block
  not_uncovered b none e = none-some y (sym none ∙ ap (covered_by h.geom at None run) e ∙ covered)

  -- so it is still where the other blocks stay
  being_stays : (log new : List Event) → ((b : ℕ) → b ≢ block → Settles (cell_of base log b) (cell_of base new b)) → Being log → Being new
  being_stays log new stays r =
      let here = (stays slot (λ e. omega (arith, r.is_slot))).idle r.alone in
      record {
        closes = r.closes;
        is_slot = r.is_slot;
        stands = ap (header_of n) here.1 ∙ r.stands;
        alone = here.0;
        other = λ z k st is. r.other z k ((stays (1 - slot) (λ e. omega arith)).stands z st) is;
        ring = λ place. kept (ring_block h.geom place) (λ e. omega (arith, e, in_ring h.geom place (header_geometry laws n _ h found.newest.stands).ring, low)) (r.ring place);
        uncovered = λ b from none. kept b (not_uncovered b none) (r.uncovered b from none);
      }
    where
      kept : (b : ℕ) → b ≢ block → IsAsFound (cell_of base log) at b → IsAsFound (cell_of base new) at b
      kept b apart f = let one = (stays b apart).idle f.idle in record { settled = one.1 ∙ f.settled; idle = one.0 }

  -- as they do with a write of the block, accepted or lost, and with a notice
  with_write : (log new : List Event) → Adds base log new block x → Being log → Being new
  with_write log new a r = being_stays log new (others_stay a) r

  with_notice : (log : List Event) (t : ℕ) → Being log → Being (log ++ Noticed t ∷ [])
  with_notice log t r = being_stays log (log ++ Noticed t ∷ []) (λ b apart. settles_one base log t b) r

  -- an honest image of a moment holds it
  now : (log : List Event) (img : Blocks) → Being log → IsHonest n base log img → Holds img
  now log img r honest = replaying_holds laws n base log img honest slot old_slot at h closed run found r

  -- after the write and the wait
  pub replayed_waited : (log new : List Event) → Being log → AddsWaited block x log new → Being new × Window n base new (length log) Holds
  replayed_waited = moments_waited n base block x Being Holds now with_write with_notice

  -- and after a write that failed
  pub replayed_failed : (log new : List Event) (e : DiskFault) → Being log → AddsWrite block x (Err e) log new → Being new × Window n base new (length log) Holds
  replayed_failed log new e r adds = moments_failed n base block x Being Holds now with_write with_notice log new x e refl r adds
