-- A name that moves onto another one, in three steps over the files of a draft.
use Rattle.std.proofs.Common.{◌≡◌, ◌≢◌, ◌⊎◌, inl, inr, ℕ, ◌<◌, List, length, set, Some, sym, ap, ◌∙◌}
use Rattle.std.proofs.lemmas.Bool.{cases_eq}
use Rattle.std.proofs.lemmas.List.{length-set}
use Rattle.std.proofs.lemmas.Option.{slice_get_within}
use Rattle.base_types.specs.declared.layout.Layout.{Layout}
use Rattle.layout_bytes.specs.declared.slot.Slot.{Slot}
use Rattle.layout_directory.specs.Directory.{without_at}
use Rattle.crash_stands.specs.Files.{Files}
use Rattle.crash_stands.specs.Inodes.{Inode, Inodes, ADir, AreInodesOf, inodes_of}
use Rattle.fs_inodes.specs.Changes.{slot_of, MovesSlot}
use Rattle.fs_files.specs.Calls.{IsWithPlaces}
use Rattle.fs_snapshots.specs.Nodes.{same_slots}
use Rattle.fs_dirs.specs.Changing.{IsWithSlots}
use Rattle.fs_commands.specs.declared.removing.Named.{Named}
use Rattle.fs_commands.specs.Looks.{IsNoSnapshot}
use Rattle.fs_commands.specs.Moving.{HasNamed}
use Rattle.fs_commands.specs.Removing.{IsFound, LosesLink, use_after}
use Rattle.fs_session.specs.Sessions.{KeepsUsed}
use Rattle.fs_session.specs.Snapshots.{LeavesSnapshots}
use Rattle.fs_commands.proofs.keeping.Begun.{slots_leave}
use Rattle.fs_commands.proofs.keeping.Leaves.{leaves_then}
use Rattle.fs_commands.proofs.looking.InUse.{no_snapshot}
use Rattle.fs_commands.proofs.moved.Slots.{onto}
use Rattle.fs_commands.proofs.removed.Slots.{found_still, lost_inode, lost_others, lost_reads, lost_used, slots_used, uses_then}
use Rattle.fs_commands.proofs.Given.{SlotsReadLaw}

-- the place of a name is one of the directory's
pub place_within : (m : Inodes) (name : List ℕ) (n : Named) (h : HasNamed m name n) → n.entry.place < length h.slots
place_within m name n h = slice_get_within h.slots n.entry.place (slot_of n.entry.node.number name) h.slot

-- The slots of the source's directory once the target's was set: as many as before.
pub record Between (m1 : Inodes) (dir count : ℕ) : Type 0 where
  pub slots : List Slot
  pub is : m1 dir ≡ Some (ADir slots)
  pub many : length slots ≡ count

module _ (l : Layout) (f0 f1 : Files) (source target : Named) (name other : List ℕ) (s : Slot) (hs : HasNamed (inodes_of l f0) name source) (ht : HasNamed (inodes_of l f0) other target) (one : IsWithSlots l f0 f1 target.dir (set ht.slots target.entry.place s)) where
  pub between : Between (inodes_of l f1) source.dir source.count
  between = by (cases_eq source.dir target.dir)
    where
      by : (source.dir ≡ target.dir) ⊎ (source.dir ≢ target.dir) → Between (inodes_of l f1) source.dir source.count
      by (inl e) = record {
        slots = set ht.slots target.entry.place s;
        is = ap (inodes_of l f1) e ∙ one.inodes.here;
        many = length-set ht.slots target.entry.place s ∙ ap length (same_slots ht.slots hs.slots (sym ht.dir ∙ sym (ap (inodes_of l f0) e) ∙ hs.dir)) ∙ sym hs.count;
      }
      by (inr d) = record { slots = hs.slots; is = one.inodes.others source.dir d ∙ hs.dir; many = sym hs.count }

-- All three steps.
module _ (l : Layout) (f0 f1 f2 f3 : Files) (source target : Named) (name other : List ℕ) (hs : HasNamed (inodes_of l f0) name source) (ht : HasNamed (inodes_of l f0) other target)
    (not_node : target.entry.node.number ≢ source.entry.node.number) (not_from : target.entry.node.number ≢ source.dir) (not_into : target.entry.node.number ≢ target.dir) (found : IsFound f0 target.entry.node) (inode : Inode) (shown : inodes_of l f0 target.entry.node.number ≡ Some inode)
    (reads0 : AreInodesOf l f0 (inodes_of l f0)) (one : IsWithSlots l f0 f1 target.dir (set ht.slots target.entry.place (slot_of source.entry.node.number other)))
    (mid : Between (inodes_of l f1) source.dir source.count) (two : IsWithSlots l f1 f2 source.dir (without_at source.entry.place mid.slots))
    (still_read : SlotsReadLaw) where
  pub reads2 : AreInodesOf l f2 (inodes_of l f2)
  reads2 = still_read l f1 f2 source.dir (without_at source.entry.place mid.slots) two (still_read l f0 f1 target.dir (set ht.slots target.entry.place (slot_of source.entry.node.number other)) one reads0)

  -- the target's node is as it was found until it loses its link
  pub found2 : IsFound f2 target.entry.node
  found2 = found_still l f1 f2 source.dir (without_at source.entry.place mid.slots) two target.entry.node not_from
      (found_still l f0 f1 target.dir (set ht.slots target.entry.place (slot_of source.entry.node.number other)) one target.entry.node not_into found)

  pub shown2 : inodes_of l f2 target.entry.node.number ≡ Some inode
  shown2 = two.inodes.others target.entry.node.number not_from ∙ one.inodes.others target.entry.node.number not_into ∙ shown

  -- it is no snapshot
  pub plain2 : IsNoSnapshot (f2 target.entry.node.number)
  plain2 = no_snapshot _ (f2 target.entry.node.number) inode shown2

  -- the snapshots stay as they are where the last step leaves them
  pub leaves3 : (p0 p1 p2 p3 : ℕ → List ℕ) (own cut : List ℕ) → IsWithPlaces p0 p1 target.dir own → IsWithPlaces p1 p2 source.dir cut → LeavesSnapshots f2 f3 p2 p3 → LeavesSnapshots f0 f3 p0 p3
  leaves3 p0 p1 p2 p3 own cut first second third = leaves_then f0 f2 f3 p0 p2 p3
      (leaves_then f0 f1 f2 p0 p1 p2
      (slots_leave l f0 f1 p0 p1 target.dir own first ht.slots (set ht.slots target.entry.place (slot_of source.entry.node.number other)) ht.dir one)
      (slots_leave l f1 f2 p1 p2 source.dir cut second mid.slots (without_at source.entry.place mid.slots) mid.is two)) third

  module _ (three : LosesLink l f2 f3 target.entry.node.number) where
    pub moves : MovesSlot (inodes_of l f0) (inodes_of l f3) source.dir target.dir source.entry.node.number name other
    moves = onto (inodes_of l f0) (inodes_of l f1) (inodes_of l f2) (inodes_of l f3) source.dir target.dir source.entry.node.number target.entry.node.number source.entry.place target.entry.place name other hs.slots ht.slots mid.slots
        hs.dir ht.dir hs.slot ht.first ht.node not_node not_from not_into one.inodes mid.is two.inodes (lost_inode l f2 f3 target.entry.node.number three) (lost_others l f2 f3 target.entry.node.number three)

    pub reads3 : AreInodesOf l f3 (inodes_of l f3)
    reads3 = lost_reads l f2 f3 target.entry.node.number three reads2

    pub used3 : KeepsUsed (use_after target.entry.node) f0 f3
    used3 = uses_then (use_after target.entry.node) f0 f2 f3
        (λ n u. slots_used l f1 f2 source.dir (without_at source.entry.place mid.slots) two n
        (slots_used l f0 f1 target.dir (set ht.slots target.entry.place (slot_of source.entry.node.number other)) one n u))
        (lost_used l f2 f3 target.entry.node three found2 inode shown2)
