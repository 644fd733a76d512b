-- What calls make of a draft that began beside what snapshots keep: what it altered, and that it leaves the snapshots where a directory got other slots, or a node that is none became another one.
use Rattle.std.proofs.Common.{⊎_elim, ◌≡◌, ◌≢◌, ℕ, Bool, false, IsTrue, List, [], Option, None, Some, IfSome, Ok, sym, subst, ap, ◌∙◌}
use Rattle.std.specs.Prelude.{IfNone}
use Rattle.std.proofs.lemmas.Bool.{cases_eq}
use Rattle.base_types.specs.declared.layout.Layout.{Layout}
use Rattle.layout_bytes.specs.declared.node.NodeKind.TheVariants.{Snapshot}
use Rattle.layout_bytes.specs.declared.slot.Slot.{Slot}
use Rattle.crash_stands.specs.Files.{FileNode, Files}
use Rattle.crash_stands.specs.Inodes.{ADir, inodes_of}
use Rattle.crash_stands.specs.Maps.{IsMapOf}
use Rattle.fs_inodes.specs.Lookups.{walk_on}
use Rattle.lang_tree.specs.Tree.{Tree}
use Rattle.engine_blocks.specs.State.{State}
use Rattle.fs_files.specs.Calls.{files_in, places_in, with_links, IsLeastUnused, IsWithFile, IsWithPlaces}
use Rattle.fs_files.specs.Drafts.{DraftState, begun_beside, nothing_drafted}
use Rattle.fs_files.specs.Effects.{LooksOnly}
use Rattle.fs_files.specs.NodeMaps.{NodeMap, nodes_in, same_nodes}
use Rattle.fs_dirs.specs.Changing.{Alters, IsWithSlots}
use Rattle.fs_commands.specs.Looks.{IsNoSnapshot}
use Rattle.fs_session.specs.Snapshots.{LeavesSnapshots}
use Rattle.fs_commands.proofs.keeping.Leaves.{kind_is_none, leaves_all, leaves_but, none_is_none}
use Rattle.fs_commands.proofs.Given.{EndsLaw}
use Rattle.fs_commands.proofs.looking.Found.{same_files}
use Rattle.fs_commands.proofs.looking.InUse.{no_snapshot}

-- what is altered of an empty draft is so whatever is kept
pub altered_beside : (counts : List ℕ) (most : ℕ) (takes : List ℕ) (frees : ℕ) (e : DraftState) → Alters most takes frees (begun_beside counts) e → Alters most takes frees nothing_drafted e
altered_beside counts most takes frees e a = record { among = a.among; some = a.some; taken = a.taken; freed = a.freed; fresh = a.fresh }

-- what is no snapshot is none where a directory has other slots
pub plain_still : (l : Layout) (old new : Files) (k : ℕ) (slots : List Slot) → IsWithSlots l old new k slots → (node : ℕ) → IsNoSnapshot (old node) → IsNoSnapshot (new node)
plain_still l old new k slots slotted node plain = ⊎_elim
    (λ e. subst (λ n. IsNoSnapshot (new n)) (sym e) (no_snapshot _ (new k) (ADir slots) slotted.inodes.here))
    (λ d. subst IsNoSnapshot (sym (slotted.others node d)) plain) (cases_eq node k)

-- nor behind reads
pub plain_behind : (tells : Bool) (s t : State) → LooksOnly tells false s t → IsTrue tells → (k : ℕ) → IsNoSnapshot (files_in s nothing_drafted k) → IsNoSnapshot (files_in t nothing_drafted k)
plain_behind tells s t looks told k plain = subst (λ (files : Files). IsNoSnapshot (files k)) (sym (same_files tells false s t nothing_drafted looks told)) plain

-- what a path leads to is none, where a tree stands
pub walked_plain : EndsLaw → (limit : ℕ) (l : Layout) (files : Files) (t : Tree) (path : List (List ℕ)) (k : ℕ) → IsMapOf limit (inodes_of l files) t → walk_on (inodes_of l files) 1 path ≡ Ok k → IsNoSnapshot (files k)
walked_plain ends limit l files t path k map walked = let u = map.shows.used path k (ends (inodes_of l files) path k walked) in no_snapshot _ (files k) u.0 u.1

module _ (l : Layout) (old new : Files) (old_places new_places : ℕ → List ℕ) (k : ℕ) (places : List ℕ) (placed : IsWithPlaces old_places new_places k places) where
  -- a node that is no snapshot became one that is none, or none is there then
  pub file_leaves : (o : Option FileNode) → IsWithFile old new k o → IsNoSnapshot (old k) → IsNoSnapshot o → LeavesSnapshots old new old_places new_places
  file_leaves o set before after = leaves_but old new old_places new_places k set.others placed.others before (subst IsNoSnapshot (sym set.own) after)

  -- a directory has other slots
  pub slots_leave : (slots more : List Slot) → inodes_of l old k ≡ Some (ADir slots) → IsWithSlots l old new k more → LeavesSnapshots old new old_places new_places
  slots_leave slots more at slotted = leaves_but old new old_places new_places k slotted.others placed.others (no_snapshot _ (old k) (ADir slots) at) (no_snapshot _ (new k) (ADir more) slotted.inodes.here)

  -- a node that is no snapshot has other links
  pub links_leave : (x : FileNode) (links : ℕ) → old k ≡ Some x → IsWithFile old new k (Some (with_links x links)) → IsNoSnapshot (old k) → LeavesSnapshots old new old_places new_places
  links_leave x links is set plain = file_leaves (Some (with_links x links)) set plain (kind_is_none (with_links x links) (plain x is))

  -- a node of another kind is under a number that was none's
  pub made_leaves : (x : FileNode) → x.kind ≢ Snapshot → old k ≡ None → IsWithFile old new k (Some x) → LeavesSnapshots old new old_places new_places
  made_leaves x plain none set = file_leaves (Some x) set (subst IsNoSnapshot (sym none) none_is_none) (kind_is_none x plain)

-- So it is where the least number that is none's was sought, also where all are in use.
pub sought_leaves : (tells : Bool) (s t : State) (d e : DraftState) → LooksOnly tells false s t → IsTrue tells → (x : FileNode) → x.kind ≢ Snapshot → (limit : ℕ) (E : Type 0) (found : Option ℕ)
    → IfSome found (λ k. IsLeastUnused limit (files_in s d) k × IsWithFile (files_in s d) (files_in t e) k (Some x)) → IfSome found (λ k. IsWithPlaces (places_in s d) (places_in t e) k [])
    → IfNone found (E × (e ≡ d)) → LeavesSnapshots (files_in s d) (files_in t e) (places_in s d) (places_in t e)
sought_leaves tells s t d e looks told x plain limit E (Some k) made placed none = made_leaves s.books.geom.layout (files_in s d) (files_in t e) (places_in s d) (places_in t e) k [] placed x plain made.0.unused made.1
sought_leaves tells s t d e looks told x plain limit E None made placed none =
    leaves_all (files_in s d) (files_in t e) (places_in s d) (places_in t e) (λ l. ap (λ (v : NodeMap). v.files l) same) (λ l. ap (λ (v : NodeMap). v.places l) same)
  where
    same : nodes_in t e ≡ nodes_in s d
    same = ap (nodes_in t) none.1 ∙ same_nodes tells false s t d looks told
