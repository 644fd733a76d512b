-- What the check of all snapshots needs, and what it knows on its way.
use Rattle.std.specs.Prelude.{◌≡◌, true, IsTrue, ℕ, ◌-◌, ◌≤◌, List, length, get_or, None, Some}
use Rattle.std.specs.FinMap.{get, insert}
use Rattle.base_types.specs.Name.{is_name}
use Rattle.base_types.specs.Seal.{Blocks}
use Rattle.layout_geometry.specs.Geometry.{Geometry}
use Rattle.layout_bytes.specs.Bitmap.{is_set}
use Rattle.layout_bytes.specs.SnapshotName.{name_block}
use Rattle.crash_stands.specs.Stands.{HasBlock}
use Rattle.fs_files.specs.Shared.{keepers}
use Rattle.fs_check.specs.declared.snapshots.Found.{Found}
use Rattle.fs_check.specs.declared.kept_meeting.Maps.{Maps}
use Rattle.fs_snapshots.specs.Kept.{HasItsParts}
use Rattle.fs_check.specs.BrokenSnapshots.{IsSnapshot, places_of}
use Rattle.fs_check.specs.KeptMeeting.{AreTrueMaps}
use Rattle.fs_check.specs.declared.kept_table.SnapshotIn.{SnapshotIn}
use Rattle.fs_check.specs.declared.checking.Damage.{Damage}
use Rattle.fs_check.specs.declared.checking.Damage.TheVariants as whole
use Rattle.fs_check.specs.declared.snapshot_damage.SnapshotDamage.TheVariants as one
use Rattle.fs_check.specs.Snapshots.{AreCheckedBelow, Numbers, numbers_in}

-- nodes have their blocks to themselves, and these are marked
pub record AreSoundNodes (g : Geometry) (m : Blocks) : Type 0 where
  pub own : (k l i j b : ℕ) → HasBlock g m k i b → HasBlock g m l j b → (k ≡ l) × (i ≡ j)
  pub marked : (k i b : ℕ) → HasBlock g m k i b → is_set g m b ≡ true

-- There is a count for each block of the disk, none is above the number of names, and before node k there were fewer names than nodes but for the root.
pub record HoldsCounts (g : Geometry) (found : Found) (k : ℕ) : Type 0 where
  pub room : length found.tally.counts ≡ g.n
  pub few : (b : ℕ) → keepers found.tally.counts b ≤ length found.numbers.entries
  pub names : length found.numbers.entries ≤ k - 2

-- The nodes were checked, the bitmaps are true, and of the snapshots those below node k were checked.
pub record IsKnownBelow (g : Geometry) (m : Blocks) (maps : Maps) (k : ℕ) (found : Found) : Type 0 where
  pub nodes : AreSoundNodes g m
  pub maps_true : AreTrueMaps g m maps.marked.items maps.firm.items
  pub below : AreCheckedBelow g m k (numbers_in found.numbers.entries) found.tally.counts

-- The nodes were checked, the bitmaps are true, the node is a snapshot with these blocks, and all of its parts are there.
pub record IsOpened (g : Geometry) (m : Blocks) (maps : Maps) (snapshot : SnapshotIn) : Type 0 where
  pub nodes : AreSoundNodes g m
  pub maps_true : AreTrueMaps g m maps.marked.items maps.firm.items
  pub is : IsSnapshot g m snapshot.number
  pub at : places_of is.node ≡ snapshot.places
  pub parts : HasItsParts g m snapshot.places

-- The snapshot's first block has a lawful name, which had no number and has the snapshot's now.
pub record IsNamed (m : Blocks) (snapshot : SnapshotIn) (old new : Numbers) : Type 0 where
  pub name : List ℕ
  pub lawful : IsTrue (is_name name)
  pub named : m (get_or snapshot.places 0 0) ≡ name_block name
  pub fresh : get old name ≡ None
  pub grows : new ≡ insert old name snapshot.number

-- the snapshot's first block has no name
abbrev pub IsUnnamed : Blocks → SnapshotIn → Type 0
IsUnnamed m snapshot = (name : List ℕ) → IsTrue (is_name name) → m (get_or snapshot.places 0 0) ≡ name_block name → ⊥

-- the snapshot's first block has a lawful name under which this number stands
pub record NamesOther (m : Blocks) (snapshot : SnapshotIn) (old : Numbers) (l : ℕ) : Type 0 where
  pub name : List ℕ
  pub lawful : IsTrue (is_name name)
  pub named : m (get_or snapshot.places 0 0) ≡ name_block name
  pub there : get old name ≡ Some l

-- what is broken where a snapshot's name can't be added to these
abbrev pub IsMisnamed : Blocks → SnapshotIn → Numbers → Damage → Type 0
IsMisnamed m snapshot old (whole.Snapshot (one.BadName k)) = (k ≡ snapshot.number) × IsUnnamed m snapshot
IsMisnamed m snapshot old (whole.Snapshot (one.SameName k l)) = (k ≡ snapshot.number) × NamesOther m snapshot old l
IsMisnamed m snapshot old _ = ⊥
