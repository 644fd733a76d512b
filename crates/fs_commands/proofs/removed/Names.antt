-- A name that goes: its slot, and then a link of its node.
use Rattle.std.proofs.Common.{◌≡◌, ◌≢◌, ℕ, ◌+◌, List, [], length, take, Some, option_and_then, sym, ap, ap₂, subst, ◌∙◌}
use Rattle.std.proofs.lemmas.Option.{slice_get_within}
use Rattle.layout_directory.specs.Directory.{without_at}
use Rattle.lang_tree.specs.Figures.{release}
use Rattle.crash_stands.specs.Inodes.{AreInodesOf, inodes_of}
use Rattle.fs_inodes.specs.Changes.{one_link_less, slot_of, TakesSlot}
use Rattle.engine_blocks.specs.State.{State}
use Rattle.fs_files.specs.Calls.{files_in, places_in, IsWithPlaces}
use Rattle.fs_files.specs.Drafts.{DraftState, begun_beside, nothing_drafted}
use Rattle.fs_files.specs.Shared.{is_kept}
use Rattle.fs_dirs.specs.Changing.{Alters, IsWithSlots, HasPlace}
use Rattle.fs_dirs.specs.Directories.{inodes_in}
use Rattle.fs_commands.specs.declared.removing.Named.{Named}
use Rattle.fs_session.specs.Commands.{places_of}
use Rattle.fs_commands.specs.Looks.{IsNoSnapshot}
use Rattle.fs_commands.specs.Removing.{IsFound, IsNamed, LosesLink, LosesName, blocks_gone, use_after}
use Rattle.fs_session.specs.Sessions.{inodes}
use Rattle.fs_session.specs.Snapshots.{LeavesSnapshots}
use Rattle.fs_session.specs.Space.{ArePlaced, none_renewed}
use Rattle.fs_commands.proofs.keeping.Begun.{slots_leave}
use Rattle.fs_commands.proofs.keeping.Laid.{inodes_laid, link_laid, reads_laid}
use Rattle.fs_commands.proofs.keeping.Leaves.{leaves_then}
use Rattle.fs_commands.proofs.looking.InUse.{no_snapshot}
use Rattle.fs_commands.proofs.Placing.{placed_cut, placed_then}
use Rattle.fs_commands.proofs.removed.Slots.{apart, slots_used, found_still, lost_inode, lost_others, lost_reads, lost_used, uses_then}
use Rattle.fs_commands.proofs.Given.{SlotsReadLaw, SumLaw}

-- the slot has its place
pub has_place : {counts : List ℕ} (s : State) (d : DraftState) (name : List ℕ) (n : Named) → d ≡ begun_beside counts → IsNamed s.books.geom.layout (files_in s nothing_drafted) name n → HasPlace s d n.dir n.entry.place
has_place s d name n none named =
    (named.slots, ap (λ e. inodes_in s e n.dir) none ∙ named.dir, slice_get_within named.slots n.entry.place (slot_of n.entry.node.number name) named.slot)

module _ (old mid : State) (d : DraftState) (name : List ℕ) (n : Named) (named : IsNamed old.books.geom.layout (files_in old nothing_drafted) name n) (taken : IsWithSlots old.books.geom.layout (files_in old nothing_drafted) (files_in mid d) n.dir (without_at n.entry.place named.slots)) (laid : mid.books.geom ≡ old.books.geom) where
  -- the node is another one than the directory
  node_apart : n.entry.node.number ≢ n.dir
  node_apart = apart (inodes old) n.dir n.entry.node.number n.entry.place named.slots (slot_of n.entry.node.number name) named.dir named.slot named.bare

  -- and is as it was once the slot went
  pub node_still : IsFound (files_in mid d) n.entry.node
  node_still = found_still old.books.geom.layout (files_in old nothing_drafted) (files_in mid d) n.dir (without_at n.entry.place named.slots) taken n.entry.node node_apart named.node

  pub node_shown : inodes_in mid d n.entry.node.number ≡ Some named.inode
  node_shown = ap (λ m. m n.entry.node.number) (inodes_laid old mid laid d) ∙ taken.inodes.others n.entry.node.number node_apart ∙ named.shown

  -- it is no snapshot
  pub node_plain : IsNoSnapshot (files_in mid d n.entry.node.number)
  node_plain = no_snapshot _ (files_in mid d n.entry.node.number) named.inode node_shown

  -- the snapshots stay as they are where they do once the slot went
  pub name_leaves : (now : State) (e : DraftState) (blocks : ℕ) → IsWithPlaces (places_of old) (places_in mid d) n.dir (take blocks (places_of old n.dir)) → LeavesSnapshots (files_in mid d) (files_in now e) (places_in mid d) (places_in now e)
      → LeavesSnapshots (files_in old nothing_drafted) (files_in now e) (places_of old) (places_in now e)
  name_leaves now e blocks cut left = leaves_then (files_in old nothing_drafted) (files_in mid d) (files_in now e) (places_of old) (places_in mid d) (places_in now e)
      (slots_leave old.books.geom.layout (files_in old nothing_drafted) (files_in mid d) (places_of old) (places_in mid d) n.dir (take blocks (places_of old n.dir)) cut named.slots (without_at n.entry.place named.slots) named.dir taken) left

  module _ (now : State) (e : DraftState) (lost : LosesLink mid.books.geom.layout (files_in mid d) (files_in now e) n.entry.node.number) (laid_now : now.books.geom ≡ old.books.geom) where
    -- the link that went, as its node was read before
    here : LosesLink old.books.geom.layout (files_in mid d) (files_in now e) n.entry.node.number
    here = link_laid old mid laid (files_in mid d) (files_in now e) n.entry.node.number lost

    slot_taken : TakesSlot (inodes old) (inodes_of old.books.geom.layout (files_in now e)) n.dir n.entry.node.number name
    slot_taken = record {
      slots = named.slots;
      place = n.entry.place;
      dir = named.dir;
      slot = named.slot;
      taken = lost_others old.books.geom.layout (files_in mid d) (files_in now e) n.entry.node.number here n.dir (λ same. node_apart (sym same)) ∙ taken.inodes.here;
      left = lost_inode old.books.geom.layout (files_in mid d) (files_in now e) n.entry.node.number here ∙ ap (option_and_then one_link_less) (taken.inodes.others n.entry.node.number node_apart);
      others = λ k up node. lost_others old.books.geom.layout (files_in mid d) (files_in now e) n.entry.node.number here k node ∙ taken.inodes.others k up;
    }

    pub name_lost : AreInodesOf old.books.geom.layout (files_in old nothing_drafted) (inodes old)
        → SlotsReadLaw
        → SumLaw
        → Alters 3 [] (release old.books.geom.layout (length named.slots)) nothing_drafted d → e.kept ≡ d.kept → Alters 1 [] (blocks_gone (is_kept d.kept) n.entry.node.facts (places_in mid d n.entry.node.number)) d e
        → (blocks : ℕ) → IsWithPlaces (places_of old) (places_in mid d) n.dir (take blocks (places_of old n.dir)) → ArePlaced none_renewed (places_in mid d) (places_in now e) [] → LosesName old now e name n
    name_lost reads read both first kept second blocks cut left =
        let still = read old.books.geom.layout (files_in old nothing_drafted) (files_in mid d) n.dir (without_at n.entry.place named.slots) taken reads in
        let gone : blocks_gone (is_kept d.kept) n.entry.node.facts (places_in mid d n.entry.node.number) ≡ blocks_gone (is_kept e.kept) n.entry.node.facts (places_of old n.entry.node.number)
        = ap₂ (λ (counts places : List ℕ). blocks_gone (is_kept counts) n.entry.node.facts places) (sym kept) (cut.others n.entry.node.number node_apart) in
        record {
          takes = subst (λ m. TakesSlot (inodes old) m n.dir n.entry.node.number name) (sym (inodes_laid old now laid_now e)) slot_taken;
          reads = reads_laid old now laid_now e (lost_reads old.books.geom.layout (files_in mid d) (files_in now e) n.entry.node.number here still);
          alters = subst (λ count. Alters 4 [] (release old.books.geom.layout count + blocks_gone (is_kept e.kept) n.entry.node.facts (places_of old n.entry.node.number)) nothing_drafted e) (sym named.count)
              (both 3 1 (release old.books.geom.layout (length named.slots)) (blocks_gone (is_kept e.kept) n.entry.node.facts (places_of old n.entry.node.number)) [] [] nothing_drafted d e first (subst (λ m. Alters 1 [] m d e) gone second));
          placed = placed_then (places_of old) (places_in mid d) (places_in now e) [] (placed_cut (places_of old) (places_in mid d) n.dir blocks [] cut) left;
          used = uses_then (use_after n.entry.node) (files_in old nothing_drafted) (files_in mid d) (files_in now e)
              (slots_used old.books.geom.layout (files_in old nothing_drafted) (files_in mid d) n.dir (without_at n.entry.place named.slots) taken) (lost_used old.books.geom.layout (files_in mid d) (files_in now e) n.entry.node here node_still named.inode (taken.inodes.others n.entry.node.number node_apart ∙ named.shown));
        }
