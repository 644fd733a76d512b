use Rattle.std.proofs.Common.{◌≡◌, ℕ, List, length}
use Rattle.base_types.specs.Seal.{Blocks, blocks_of}
use Rattle.layout_geometry.specs.Geometry.{Geometry}
use Rattle.fs_check.specs.declared.kept_meeting.Maps.{Maps}
use Rattle.fs_check.specs.declared.kept_meeting.Tally.{Tally}
use Rattle.fs_check.specs.KeptMeeting.{AreTrueMaps, CountsMet, HasMetKept, HasRoomToCount}
use Rattle.fs_check.proofs.keeping.Meets.{IsKeptFile}
use Rattle.fs_check.proofs.kept_meeting.keep_places.Given as goal

-- what is known once the first i blocks were met
pub record KeepsTo (g : Geometry) (maps : Maps) (old new : Tally) (list : List ℕ) (i : ℕ) : Type 0 where
  pub size : length new.met.items ≡ length old.met.items
  pub dirs : new.dirs ≡ old.dirs
  pub room : HasRoomToCount g (blocks_of new.met.items) new.counts
  pub counts : (before : List ℕ) → CountsMet (blocks_of old.met.items) before old.counts → CountsMet (blocks_of new.met.items) before new.counts
  pub met : (m : Blocks) (own : List ℕ) (k : ℕ) → AreTrueMaps g m maps.marked.items maps.firm.items → IsKeptFile g m own k list → HasMetKept g m own k 0 (blocks_of old.met.items) → HasMetKept g m own k i (blocks_of new.met.items)

abbrev pub invariant-loop-i : goal.invariant-loop-i
invariant-loop-i l = KeepsTo l.geom l.maps l.fn.tally l.tally l.places l.i
