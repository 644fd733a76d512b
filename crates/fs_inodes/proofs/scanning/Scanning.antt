-- A scan begins with the root alone, goes on slot by slot, and ends with the whole map.
use Rattle.std.proofs.Common.{◌≡◌, ℕ, ◌+◌, ◌≤◌, List, [], ◌∷◌, ◌++◌, Option, Some, None, option_map, sym, refl, subst, ap, ◌∙◌, ◌⊎◌, inl, inr, append_assoc, arith}
use Rattle.std.proofs.lemmas.Bool.{cases_eq}
use Rattle.std.specs.FinMap.{get}
use Rattle.std.proofs.lemmas.Option.{same_Some, none-some}
use Rattle.layout_bytes.specs.declared.slot.Slot.{Slot}
use Rattle.lang_tree.specs.Tree.{Tree, Thing, Dir}
use Rattle.crash_stands.specs.Inodes.{Inode, Inodes, ADir, AFile, thing_of, root_alone}
use Rattle.crash_stands.specs.Walks.{entries_of, entry_in, node_in}
use Rattle.crash_stands.specs.Maps.{IsMapOf}
use Rattle.fs_inodes.specs.Changes.{slot_of, new_inode, AddsSlot}
use Rattle.fs_inodes.specs.Scan.{IsPartOf, IsThrough, SawAll, LinksFit}
use Rattle.fs_inodes.specs.TreeLaws.{TreeLaws}
use Rattle.fs_inodes.proofs.basics.Paths.{Path}
use Rattle.fs_inodes.proofs.basics.Numbers.{everywhere}
use Rattle.fs_inodes.proofs.agreement.Steps.{step_at}
use Rattle.fs_inodes.proofs.agreement.Agree.{Agrees, agrees, is_map}
use Rattle.fs_inodes.proofs.commands.Adding.{adds_name, one_dir, dir_file, node_agrees, link_agrees}

-- The root alone.

-- no slots are no slots
no_slots : {slots : List Slot} → ADir slots ≡ ADir [] → slots ≡ []
no_slots e = cc

-- the root alone is a part where the root is a directory
pub root_is_part : (w : Inodes) (slots : List Slot) → w 1 ≡ Some (ADir slots) → IsPartOf root_alone w
root_is_part w slots root = record {
  dirs = λ k seen is. let r : (k ≡ 1) × (ADir seen ≡ ADir []) = grind (arith, none-some, same_Some, is) in (slots, ap w r.0 ∙ root ∙ ap (λ l. Some (ADir (l ++ slots))) (sym (no_slots r.1)));
  files = λ k links bytes is. absurd (dir_file [] links bytes refl (ap Some (grind (arith, none-some, same_Some, is))));
}

-- A slot more.

-- a path leads to each directory of the map
pub path_to : (limit : ℕ) (m : Inodes) (t : Tree) → Agrees limit m t → (k : ℕ) (x : Inode) → m k ≡ Some x → (p : Path) × (get t.names p ≡ Some k)
path_to limit m t a k x is = a.sound.reached k (thing_of x) (a.nodes k ∙ ap (option_map thing_of) is)

module _ (laws : TreeLaws) (limit : ℕ) (m new : Inodes) (t : Tree) (is : IsMapOf limit m t) (d n : ℕ) (name : List ℕ) where
  -- the map and the tree agree
  a : Agrees limit m t
  a = agrees laws limit m t is

  -- nothing is at a path whose name no slot has
  free_at : (slots : List Slot) (up : Path) → m d ≡ Some (ADir slots) → get t.names up ≡ Some d → node_in slots name ≡ None → get t.names (up ++ name ∷ []) ≡ None
  free_at slots up dir at none = step_at (entries_of m) (get t.names) a.goes up name d at ∙ ap (λ o. entry_in o name) dir ∙ none

  -- a slot of a node that wasn't seen
  pub node_seen : (thing : Thing) (ch : AddsSlot m new d n name (new_inode thing)) → node_in ch.slots name ≡ None → m n ≡ None → 1 ≤ n → n ≤ limit → (u : Tree) × IsMapOf limit new u
  node_seen thing ch free unused low high =
      let up = path_to limit m t a d (ADir ch.slots) ch.dir in (
        _,
        is_map limit new _ (node_agrees laws limit m new t a up.0 name d n (new_inode thing) up.1 (free_at ch.slots up.0 ch.dir up.1 free)
            (adds_name limit m new t a up.0 name d n (new_inode thing) up.1 (free_at ch.slots up.0 ch.dir up.1 free) ch) thing refl unused low high),
      )

  -- a slot of a file that was seen
  pub path_seen : (links : ℕ) (bytes : List ℕ) (ch : AddsSlot m new d n name (AFile (links + 1) bytes)) → node_in ch.slots name ≡ None → m n ≡ Some (AFile links bytes) → (u : Tree) × IsMapOf limit new u
  path_seen links bytes ch free file =
      let up = path_to limit m t a d (ADir ch.slots) ch.dir in (
        _,
        is_map limit new _ (link_agrees laws limit m new t a up.0 name d n (AFile (links + 1) bytes) up.1 (free_at ch.slots up.0 ch.dir up.1 free)
            (adds_name limit m new t a up.0 name d n (AFile (links + 1) bytes) up.1 (free_at ch.slots up.0 ch.dir up.1 free) ch) links bytes file refl),
      )

-- What was seen stays a part of the whole.

module _ (m new w : Inodes) (part : IsPartOf m w) (d n : ℕ) (name : List ℕ) (x : Inode) (ch : AddsSlot m new d n name x) (rest : List Slot) (next : w d ≡ Some (ADir (ch.slots ++ slot_of n name ∷ rest)))
    (dir_in : (slots : List Slot) → x ≡ ADir slots → (rest : List Slot) × (w n ≡ Some (ADir (slots ++ rest))))
    (file_in : (links : ℕ) (bytes : List ℕ) → x ≡ AFile links bytes → (all : ℕ) × (w n ≡ Some (AFile all bytes))) where
  -- after a slot more, what was seen is a part of the whole
  still_part : IsPartOf new w
  still_part = record {
    dirs = λ k slots is. dirs k slots is (cases_eq k d) (cases_eq k n);
    files = λ k links bytes is. files k links bytes is (cases_eq k d) (cases_eq k n);
  }
    where
      dirs : (k : ℕ) (slots : List Slot) → new k ≡ Some (ADir slots) → (k ≡ d) ⊎ (k ≡ d → ⊥) → (k ≡ n) ⊎ (k ≡ n → ⊥) → (rest : List Slot) × (w k ≡ Some (ADir (slots ++ rest)))
      dirs k slots is (inl e) side =
          let same : slots ≡ ch.slots ++ slot_of n name ∷ [] = one_dir slots (ch.slots ++ slot_of n name ∷ []) (ap new (sym e) ∙ is) ch.added in
          (rest, ap w e ∙ next ∙ ap (λ l. Some (ADir l)) (sym (append_assoc ch.slots (slot_of n name ∷ []) rest) ∙ ap (λ l. l ++ rest) (sym same)))
      dirs k slots is (inr away) (inl e) = let r = dir_in slots (same_Some x (ADir slots) (sym ch.named ∙ ap new (sym e) ∙ is)) in (r.0, ap w e ∙ r.1)
      dirs k slots is (inr away) (inr off) = part.dirs k slots (sym (ch.others k away off) ∙ is)

      files : (k links : ℕ) (bytes : List ℕ) → new k ≡ Some (AFile links bytes) → (k ≡ d) ⊎ (k ≡ d → ⊥) → (k ≡ n) ⊎ (k ≡ n → ⊥) → (all : ℕ) × (w k ≡ Some (AFile all bytes))
      files k links bytes h1 h2 h3 = grind (arith, dir_file, ch.slots, ch.added, same_Some, ch.named, part.files, ch.others)

-- the bytes of a file are one list
same_bytes : {links more : ℕ} {bytes others : List ℕ} → AFile links bytes ≡ AFile more others → bytes ≡ others
same_bytes e = cc

-- after a slot of a directory that wasn't seen
pub dir_part : (m new w : Inodes) (d n : ℕ) (name : List ℕ) (below rest : List Slot) (ch : AddsSlot m new d n name (new_inode Dir)) → IsPartOf m w
    → w d ≡ Some (ADir (ch.slots ++ slot_of n name ∷ rest)) → w n ≡ Some (ADir below) → IsPartOf new w
dir_part m new w d n name below rest ch part next there = still_part m new w part d n name (ADir []) ch rest next
    (λ slots e. (below, there ∙ ap (λ l. Some (ADir (l ++ below))) (sym (no_slots (sym e)))))
    (λ links bytes e. absurd (dir_file [] links bytes refl (ap Some e)))

-- after a slot of a file
pub file_part : (m new w : Inodes) (d n : ℕ) (name : List ℕ) (links all : ℕ) (bytes : List ℕ) (rest : List Slot) (ch : AddsSlot m new d n name (AFile links bytes)) → IsPartOf m w
    → w d ≡ Some (ADir (ch.slots ++ slot_of n name ∷ rest)) → w n ≡ Some (AFile all bytes) → IsPartOf new w
file_part m new w d n name links all bytes rest ch part next there = still_part m new w part d n name (AFile links bytes) ch rest next
    (λ slots e. absurd (dir_file slots links bytes (ap Some e) refl))
    (λ more others e. (all, there ∙ ap (λ b. Some (AFile all b)) (same_bytes e)))

-- The slots of the record are those of the directory.

-- The end.

module _ (m w : Inodes) (part : IsPartOf m w) (through : IsThrough m w) (all : SawAll m w) (links : LinksFit m w) where
  -- each inode of what was seen is that of the whole
  same_inode : (k : ℕ) → m k ≡ w k
  same_inode k = by (m k) refl
    where
      none : (o : Option Inode) → w k ≡ o → m k ≡ None → None ≡ w k
      none o h1 h2 = grind (arith, none-some)

      by : (o : Option Inode) → m k ≡ o → o ≡ w k
      by None is = none (w k) refl is
      by (Some (ADir slots)) is = sym (through k slots is)
      by (Some (AFile seen bytes)) is =
          let r = part.files k seen bytes is in
          ap (λ l. Some (AFile l bytes)) (links k seen r.0 bytes bytes is r.1) ∙ sym r.1

  -- so the whole is the map of the same tree
  pub whole_is_map : (limit : ℕ) (t : Tree) → IsMapOf limit m t → IsMapOf limit w t
  whole_is_map limit t is = subst (λ i. IsMapOf limit i t) (everywhere m w same_inode) is
