-- The tree that an image stands for has lawful names: slots have no others.
use Rattle.std.proofs.Common.{◌≡◌, sym, ap, refl, ◌∙◌, subst, arith, ℕ, zero, suc, ◌+◌, ◌<◌, ◌^◌, ◌==◌, Bool, true, false, if◌then◌else◌, List, [], ◌∷◌, length, take, drop, Option, Some, None, bytes_eq, nat_le}
use Rattle.std.specs.Prelude.{◌-◌, ◌&&◌, slice_index, option_map, option_and_then}
use Rattle.std.specs.List.{list_all}
use Rattle.std.proofs.lemmas.Bool.{and_parts}
use Rattle.std.proofs.lemmas.Slice.Eq.{bytes_eq-Decides}
use Rattle.std.proofs.lemmas.Option.{same_Some}
use Rattle.base_types.specs.Layouts.{longest_name, slot_place, slots_held}
use Rattle.base_types.specs.declared.layout.Layout.{Layout}
use Rattle.base_types.specs.Name.{is_name}
use Rattle.base_types.specs.Runs.{run_places}
use Rattle.base_types.specs.Seal.{Blocks}
use Rattle.layout_geometry.specs.Geometry.{Geometry, IsGeometry, geometry_fits}
use Rattle.layout_journal.specs.declared.header.Header.{Header}
use Rattle.layout_journal.specs.Layout.{header_of, IsWithinDisk}
use Rattle.layout_bytes.specs.Bytes.{when, field, has_zeros}
use Rattle.layout_bytes.specs.Slot.{slots_in, slots_at, slot_size, slot_of, then_slot, name_in}
use Rattle.layout_bytes.specs.declared.node.NodeKind.{NodeKind}
use Rattle.layout_bytes.specs.declared.node.NodeKind.TheVariants.{Free, Dir as DirNode, File as FileOf, Snapshot}
use Rattle.layout_bytes.specs.declared.slot.Slot.{Slot}
use Rattle.crash_stands.specs.Files.{FileNode, Files, files_of}
use Rattle.crash_stands.specs.Inodes.{Inode, Inodes, ADir, AFile, AreInodesOf, IsInodeOf, inode_by}
use Rattle.crash_stands.specs.Kept.{kept_files}
use Rattle.crash_stands.specs.Stands.{IsTreeOf, StandsFor}
use Rattle.crash_stands.specs.Walks.{entries_of, entry_in, node_in, walk}
use Rattle.cmd_trace.specs.Contents.{Each}
use Rattle.lang_tree.specs.Tree.{Tree, HasSoundSnapshots, IsSound}
use Rattle.cmd_replay.specs.Named.{HasLawfulNames, IsListable, OfEachSnapshot}

-- the name of a slot is lawful
abbrev IsNamed : Slot → Type 0
IsNamed s = is_name s.name ≡ true

slot_is_named : (l : Layout) (b : List ℕ) (s : Slot) → slot_of l b ≡ Some s → IsNamed s
unfolding slot_of
slot_is_named l b s e = by _ refl e
  where
    slot : Slot
    slot = record { node = field b 0 4; name = name_in b }

    by : (t : Bool) → (nat_le (slice_index b 4) (longest_name l) && (is_name (name_in b) && has_zeros b (5 + slice_index b 4) (slot_size l))) ≡ t → when t (Some slot) ≡ Some s → IsNamed s
    by true h is =
        let names = (and_parts (nat_le (slice_index b 4) (longest_name l)) _ h).1 in
        subst IsNamed (same_Some slot s is) (and_parts (is_name (name_in b)) (has_zeros b (5 + slice_index b 4) (slot_size l)) names).0
    by false h is = cc is

slots_are_named : (l : Layout) (from n : ℕ) (b : List ℕ) (slots : List Slot) → slots_at l from n b ≡ Some slots → Each IsNamed slots
slots_are_named l from zero b slots e = subst (Each IsNamed) (same_Some [] slots e) tt
slots_are_named l from (suc n) b slots e =
    by (has_zeros b (slot_place l from + slot_size l) (slot_place l (from + 1))) (slot_of l (take (slot_size l) (drop (slot_place l from) b))) (slots_at l (from + 1) n b) refl
    (slots_are_named l (from + 1) n b) e
  where
    by : (t : Bool) (o : Option Slot) (r : Option (List Slot)) → slot_of l (take (slot_size l) (drop (slot_place l from) b)) ≡ o → ((more : List Slot) → r ≡ Some more → Each IsNamed more)
        → when t (then_slot o r) ≡ Some slots → Each IsNamed slots
    by false o r first rest is = cc is
    by true None r first rest is = cc is
    by true (Some s) None first rest is = cc is
    by true (Some s) (Some more) first rest is =
        subst (Each IsNamed) (same_Some (s ∷ more) slots is) (slot_is_named l (take (slot_size l) (drop (slot_place l from) b)) s first, rest more refl)

-- what stands under a name among slots is under a lawful one
under_a_name : (slots : List Slot) (name : List ℕ) (n : ℕ) → Each IsNamed slots → node_in slots name ≡ Some n → is_name name ≡ true
under_a_name [] name n h e = cc e
under_a_name (s ∷ slots) name n h e = by (bytes_eq s.name name) refl (under_a_name slots name n h.1) e
  where
    by : (t : Bool) → bytes_eq s.name name ≡ t → (node_in slots name ≡ Some n → is_name name ≡ true) → (if t then Some s.node else node_in slots name) ≡ Some n → is_name name ≡ true
    by true same later is = ap is_name (sym ((bytes_eq-Decides s.name name).0 same)) ∙ h.0
    by false same later is = later is

-- the slots of a directory are named
dir_is_named : (l : Layout) (kind : NodeKind) (links : ℕ) (bytes : List ℕ) (slots : List Slot) → inode_by l kind links bytes ≡ Some (ADir slots) → Each IsNamed slots
dir_is_named l Free links bytes slots e = cc e
dir_is_named l Snapshot links bytes slots e = cc e
dir_is_named l FileOf links bytes slots e = cc e
dir_is_named l DirNode links bytes slots e =
    by (links == 1) (slots_in l (slots_held l (length bytes)) bytes) (slots_are_named l 0 (slots_held l (length bytes)) bytes) e
  where
    by : (t : Bool) (o : Option (List Slot)) → ((more : List Slot) → o ≡ Some more → Each IsNamed more) → when t (option_map ADir o) ≡ Some (ADir slots) → Each IsNamed slots
    by false o named is = cc is
    by true None named is = cc is
    by true (Some more) named is = let same : more ≡ slots = cc is in subst (Each IsNamed) same (named more refl)

inode_is_named : (l : Layout) (file : Option FileNode) (slots : List Slot) → IsInodeOf l file (Some (ADir slots)) → Each IsNamed slots
inode_is_named l None slots h = cc h
inode_is_named l (Some file) slots h = dir_is_named l file.kind file.links file.bytes slots h

module _ (l : Layout) (files : Files) (m : Inodes) (read : AreInodesOf l files m) where
  entry_is_named : (k : ℕ) (name : List ℕ) (n : ℕ) (o : Option Inode) → m k ≡ o → entry_in o name ≡ Some n → is_name name ≡ true
  entry_is_named k name n None at e = cc e
  entry_is_named k name n (Some (AFile links bytes)) at e = cc e
  entry_is_named k name n (Some (ADir slots)) at e = under_a_name slots name n (inode_is_named l (files k) slots (subst (IsInodeOf l (files k)) at (read k))) e

  walk_is_named : (p : List (List ℕ)) (k n : ℕ) → walk (entries_of m) k p ≡ Some n → list_all is_name p ≡ true
  walk_is_named [] k n e = refl
  walk_is_named (name ∷ p) k n e = by (entries_of m k name) refl (λ j. walk_is_named p j n) e
    where
      by : (o : Option ℕ) → entries_of m k name ≡ o → ((j : ℕ) → walk (entries_of m) j p ≡ Some n → list_all is_name p ≡ true)
          → option_and_then (λ j. walk (entries_of m) j p) o ≡ Some n → list_all is_name (name ∷ p) ≡ true
      by None at later is = cc is
      by (Some j) at later is = rw (entry_is_named k name j (m k) refl at) (later j is)

tree_is_named : (g : Geometry) (m : Blocks) (t : Tree) → IsTreeOf g m t → HasLawfulNames t
tree_is_named g m t is p n e = walk_is_named g.layout (files_of g m) is.inodes is.read p 1 n (sym (is.map.shows.names p) ∙ e)

kept_is_named : (g : Geometry) (m : Blocks) (t : Tree) → IsTreeOf g m t → OfEachSnapshot (λ name u. (is_name name ≡ true) × HasLawfulNames u) t
kept_is_named g m t is name k at =
    let holds = is.keeps name k at in
    let kept = holds.keeps in
    (holds.lawful, λ p n e. walk_is_named g.layout (kept_files g m (run_places holds.node.runs)) kept.inodes kept.read p 1 n (sym (kept.map.shows.names p) ∙ e))

pub stands_named : ((g : Geometry) → geometry_fits g ≡ true → IsGeometry g) → ((n : ℕ) (b : List ℕ) (h : Header) → header_of n b ≡ Some h → IsWithinDisk n h)
    → ((g : Geometry) (m : Blocks) (t : Tree) → IsTreeOf g m t → IsSound g.i t) → ((g : Geometry) (m : Blocks) (t : Tree) → IsTreeOf g m t → HasSoundSnapshots g.i t)
    → (n : ℕ) (img : Blocks) (t : Tree) → StandsFor n img t → (i : ℕ) × (i < 2 ^ 64) × IsListable i t
stands_named limits headers sound snapshots n img t is =
    let g = is.held.header.geom in
    let most = (limits g (headers n (img is.held.slot) is.held.header is.held.newest.stands).geom).most_nodes in (
      g.i,
      omega (arith, most),
      record { sound = sound g is.map t is.tree; names = tree_is_named g is.map t is.tree; snapshots = snapshots g is.map t is.tree; kept = kept_is_named g is.map t is.tree },
    )
