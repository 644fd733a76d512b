-- What a check of the nodes that one snapshot keeps needs, and what it knows on its way.
use Rattle.std.specs.Prelude.{◌≡◌, ℕ, ◌+◌, ◌≤◌, List, length}
use Rattle.std.specs.List.{All}
use Rattle.base_types.specs.Seal.{Blocks, blocks_of}
use Rattle.layout_geometry.specs.Geometry.{Geometry, bitmap_blocks}
use Rattle.crash_stands.specs.Places.{table_blocks}
use Rattle.engine_blocks.specs.Puts.{IsData}
use Rattle.engine_blocks.specs.State.{State}
use Rattle.fs_snapshots.specs.Kept.{HasItsParts}
use Rattle.fs_check.specs.declared.kept_meeting.Maps.{Maps}
use Rattle.fs_check.specs.declared.kept_meeting.Tally.{Tally}
use Rattle.fs_check.specs.declared.kept_table.SnapshotIn.{SnapshotIn}
use Rattle.fs_check.specs.BrokenSnapshots.{IsSnapshot, places_of}
use Rattle.fs_check.specs.KeptMeeting.{AreTrueMaps, HasRoomToCount, IsKeptSoundBelow, MayCheckKept}

-- What the check of a snapshot at these places needs, whether blocks are known or not.
pub record MayGo (g : Geometry) (s : State) (maps : Maps) (tally : Tally) (places : List ℕ) : Type 0 where
  pub may : MayCheckKept g s maps.marked.items maps.firm.items
  pub met_size : length tally.met.items ≡ bitmap_blocks g
  pub room : HasRoomToCount g (blocks_of tally.met.items) tally.counts
  pub «data» : All (IsData g) places
  pub table : 1 + table_blocks g ≤ length places
  pub most : length places ≤ 62914560

-- The node is a snapshot with these blocks, all of its parts are there, each block of it is a whole one, and the nodes below k that it keeps were gone through.
pub record IsKeptTo (g : Geometry) (m : Blocks) (maps : Maps) (tally : Tally) (snapshot : SnapshotIn) (k : ℕ) : Type 0 where
  pub maps_true : AreTrueMaps g m maps.marked.items maps.firm.items
  pub is : IsSnapshot g m snapshot.number
  pub at : places_of is.node ≡ snapshot.places
  pub parts : HasItsParts g m snapshot.places
  pub whole : All (λ b. length (m b) ≡ 1024) snapshot.places
  pub below : IsKeptSoundBelow g m snapshot.places k tally.dirs (blocks_of tally.met.items)
