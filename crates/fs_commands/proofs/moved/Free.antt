-- A name that moves to a free one: of its directory, and of another one.
use Rattle.std.proofs.Common.{◌≡◌, ◌≢◌, ℕ, ◌<◌, List, [], ◌∷◌, ◌++◌, length, set, None, sym, subst, ◌∙◌}
use Rattle.base_types.specs.declared.layout.Layout.{Layout}
use Rattle.layout_bytes.specs.declared.slot.Slot.{Slot}
use Rattle.layout_directory.specs.Directory.{place_of, without_at}
use Rattle.crash_stands.specs.Files.{Files}
use Rattle.crash_stands.specs.Inodes.{inodes_of}
use Rattle.crash_stands.specs.Walks.{node_in}
use Rattle.fs_inodes.specs.Changes.{slot_of, with_slot, MovesSlot}
use Rattle.fs_files.specs.Calls.{IsWithPlaces}
use Rattle.fs_snapshots.specs.Nodes.{same_slots}
use Rattle.fs_dirs.specs.Changing.{IsWithSlots}
use Rattle.fs_commands.specs.declared.removing.Named.{Named}
use Rattle.fs_commands.specs.Moving.{HasNamed, LacksName}
use Rattle.fs_session.specs.declared.unused.NodeUse.TheVariants.{Stays}
use Rattle.fs_session.specs.Sessions.{KeepsUsed}
use Rattle.fs_session.specs.Snapshots.{LeavesSnapshots}
use Rattle.fs_commands.proofs.keeping.Begun.{slots_leave}
use Rattle.fs_commands.proofs.keeping.Leaves.{leaves_then}
use Rattle.fs_commands.proofs.moved.Onto.{place_within}
use Rattle.fs_commands.proofs.moved.Slots.{within, across}
use Rattle.fs_commands.proofs.removed.Slots.{slots_used}

-- within one directory
module _ (l : Layout) (f0 f1 : Files) (source : Named) (name other : List ℕ) (hs : HasNamed (inodes_of l f0) name source) (free : LacksName (inodes_of l f0) other source.dir source.count)
    (one : IsWithSlots l f0 f1 source.dir (set hs.slots source.entry.place (slot_of source.entry.node.number other)))
    (law : (slots : List Slot) (s : Slot) (place : ℕ) → place_of s.name slots ≡ None → place < length slots → without_at place (with_slot slots s) ≡ set slots place s) where
  pub moves_within : MovesSlot (inodes_of l f0) (inodes_of l f1) source.dir source.dir source.entry.node.number name other
  moves_within =
      let same = same_slots free.slots hs.slots (sym free.dir_is ∙ hs.dir) in
      within (inodes_of l f0) (inodes_of l f1) source.dir source.entry.node.number source.entry.place name other hs.slots law hs.dir hs.slot (place_within (inodes_of l f0) name source hs)
      (subst (λ (xs : List Slot). place_of other xs ≡ None) same free.none) (subst (λ (xs : List Slot). node_in xs other ≡ None) same free.nothing) one.inodes

  -- the snapshots stay as they are
  pub leaves_within : (p0 p1 : ℕ → List ℕ) (own : List ℕ) → IsWithPlaces p0 p1 source.dir own → LeavesSnapshots f0 f1 p0 p1
  leaves_within p0 p1 own placed = slots_leave l f0 f1 p0 p1 source.dir own placed hs.slots (set hs.slots source.entry.place (slot_of source.entry.node.number other)) hs.dir one

  pub used_within : KeepsUsed Stays f0 f1
  used_within = slots_used l f0 f1 source.dir (set hs.slots source.entry.place (slot_of source.entry.node.number other)) one

-- across two directories
module _ (l : Layout) (f0 f1 f2 : Files) (source : Named) (into count : ℕ) (name other : List ℕ) (hs : HasNamed (inodes_of l f0) name source) (free : LacksName (inodes_of l f0) other into count) (apart : source.dir ≢ into)
    (one : IsWithSlots l f0 f1 into (free.slots ++ slot_of source.entry.node.number other ∷ [])) (two : IsWithSlots l f1 f2 source.dir (without_at source.entry.place hs.slots)) where
  pub moves_across : MovesSlot (inodes_of l f0) (inodes_of l f2) source.dir into source.entry.node.number name other
  moves_across = across (inodes_of l f0) (inodes_of l f1) (inodes_of l f2) source.dir into source.entry.node.number source.entry.place name other hs.slots free.slots apart hs.dir free.dir_is hs.slot free.none free.nothing one.inodes two.inodes

  pub leaves_across : (p0 p1 p2 : ℕ → List ℕ) (own cut : List ℕ) → IsWithPlaces p0 p1 into own → IsWithPlaces p1 p2 source.dir cut → LeavesSnapshots f0 f2 p0 p2
  leaves_across p0 p1 p2 own cut first second = leaves_then f0 f1 f2 p0 p1 p2
      (slots_leave l f0 f1 p0 p1 into own first free.slots (free.slots ++ slot_of source.entry.node.number other ∷ []) free.dir_is one)
      (slots_leave l f1 f2 p1 p2 source.dir cut second hs.slots (without_at source.entry.place hs.slots) (one.inodes.others source.dir apart ∙ hs.dir) two)

  pub used_across : KeepsUsed Stays f0 f2
  used_across = λ n u.
      slots_used l f1 f2 source.dir (without_at source.entry.place hs.slots) two n (slots_used l f0 f1 into (free.slots ++ slot_of source.entry.node.number other ∷ []) one n u)
