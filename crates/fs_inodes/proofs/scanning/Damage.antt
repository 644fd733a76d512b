-- What no tree stands for: an inode map that a scan finds wrong.
use Rattle.std.proofs.Common.{◌≡◌, ℕ, List, [], ◌∷◌, ◌++◌, length, slice_get, Some, None, sym, refl, ap, ◌∙◌, ◌⊎◌, inl, inr, arith, append-nil, append_assoc}
use Rattle.std.proofs.lemmas.Option.{slice_get_within, same_Some, none-some}
use Rattle.std.specs.FinMap.{get, same_map}
use Rattle.layout_bytes.specs.declared.slot.Slot.{Slot}
use Rattle.lang_tree.specs.Tree.{Tree}
use Rattle.lang_tree.specs.Names.{path_count}
use Rattle.crash_stands.specs.Inodes.{Inode, Inodes, ADir, AFile, AreDistinct}
use Rattle.crash_stands.specs.Walks.{entries_of, entry_in, node_in}
use Rattle.crash_stands.specs.Maps.{IsMapOf}
use Rattle.fs_inodes.specs.Scan.{IsPartOf, IsThrough}
use Rattle.fs_inodes.specs.TreeLaws.{TreeLaws}
use Rattle.fs_inodes.proofs.basics.Paths.{Path, which, from_end}
use Rattle.fs_inodes.proofs.basics.FinMaps.{path_total, path_same}
use Rattle.fs_inodes.proofs.slots.Slots.{found, front_at}
use Rattle.fs_inodes.proofs.agreement.Steps.{step_at}
use Rattle.fs_inodes.proofs.agreement.Agree.{Agrees, agrees, nowhere, inode_named}
use Rattle.fs_inodes.proofs.commands.Adding.{one_dir}
use Rattle.fs_inodes.proofs.scanning.Scanning.{path_to}

-- the slot that comes next
pub next_at : {A : Type 0} (slots : List A) (s : A) (rest : List A) → slice_get (slots ++ s ∷ rest) (length slots) ≡ Some s
next_at [] s rest = refl
next_at (x ∷ slots) s rest = next_at slots s rest

-- the slot behind some others has no name of theirs
pub next_name_new : (slots rest : List Slot) (s : Slot) → AreDistinct (slots ++ s ∷ rest) → node_in slots s.name ≡ None
next_name_new slots rest s distinct = by (which (node_in slots s.name))
  where
    by : (node_in slots s.name ≡ None) ⊎ ((n : ℕ) × (node_in slots s.name ≡ Some n)) → node_in slots s.name ≡ None
    by (inl none) = none
    by (inr some) =
        let r = found slots s.name some.0 some.1 in
        let same = distinct r.1.0 (length slots) r.0 s (front_at slots (s ∷ rest) r.1.0 r.0 r.1.1) (next_at slots s rest) r.2 in
        absurd (omega (arith, same, slice_get_within slots r.1.0 r.0 r.1.1))

-- Beside what was seen so far.

module _ (laws : TreeLaws) (limit : ℕ) (m w : Inodes) (t u : Tree) (seen : IsMapOf limit m t) (is : IsMapOf limit w u) (part : IsPartOf m w) where
  -- what was seen agrees with its tree
  a : Agrees limit m t
  a = agrees laws limit m t seen

  -- and the whole map with the other one
  c : Agrees limit w u
  c = agrees laws limit w u is

  -- the next slot doesn't name a directory that was seen
  pub next_dir_new : (d : ℕ) (slots rest below : List Slot) (s : Slot) → m d ≡ Some (ADir slots) → w d ≡ Some (ADir (slots ++ s ∷ rest)) → m s.node ≡ Some (ADir below) → ⊥
  next_dir_new d slots rest below s here dir seen_dir =
      let p = path_to limit m t a s.node (ADir below) seen_dir in
      by p.0 p.1 (from_end p.0)
    where
      whole : (rest : List Slot) × (w s.node ≡ Some (ADir (below ++ rest)))
      whole = part.dirs s.node below seen_dir

      by_slot : (k i : ℕ) (others : List Slot) (v : Slot) → m k ≡ Some (ADir others) → slice_get others i ≡ Some v → v.node ≡ s.node → ⊥
      by_slot k i others v is_dir at same =
          let r = part.dirs k others is_dir in
          let one = laws.slot_once limit w u is k d i (length slots) s.node (others ++ r.0) (slots ++ s ∷ rest) (below ++ whole.0) v s r.1 dir (front_at others r.0 i v at) (next_at slots s rest) same refl whole.1 in
          let lists : others ≡ slots = one_dir others slots (ap m (sym one.0) ∙ is_dir) here in
          omega (arith, one.1, slice_get_within slots i v (ap (λ l. slice_get l i) (sym lists) ∙ at))

      by : (p : Path) → get t.names p ≡ Some s.node → (p ≡ []) ⊎ ((up : Path) × (name : List ℕ) × (p ≡ up ++ name ∷ [])) → ⊥
      by p at (inl root) =
          laws.slot_root limit w u is d (length slots) (slots ++ s ∷ rest) s dir (next_at slots s rest)
          (same_Some s.node 1 (sym at ∙ ap (get t.names) root ∙ a.sound.root))
      by p at (inr end) =
          let up = a.sound.parents end.0 end.1 s.node (ap (get t.names) (sym end.2) ∙ at) in
          let entry : entry_in (m up.0) end.1 ≡ Some s.node = sym (step_at (entries_of m) (get t.names) a.goes end.0 end.1 up.0 up.1) ∙ ap (get t.names) (sym end.2) ∙ at in
          let slots_up : (slots : List Slot) × (m up.0 ≡ Some (ADir slots)) = grind (arith, none-some, m up.0, entry) in
          let v = found slots_up.0 end.1 s.node (sym (ap (λ o. entry_in o end.1) slots_up.1) ∙ entry) in
          by_slot up.0 v.1.0 slots_up.0 v.0 slots_up.1 v.1.1 v.3

  -- Once all directories that were seen are through, the paths are those of the whole.
  module _ (through : IsThrough m w) where
    -- what was seen has the entries of the whole
    same_entries : (k : ℕ) (x : Inode) (b : List ℕ) → m k ≡ Some x → entries_of m k b ≡ entries_of w k b
    same_entries k x b h1 = grind (arith, part.files)

    -- from a path of both trees on, all paths lead to the same numbers
    same_from : (here rest : Path) (k : ℕ) → get t.names here ≡ Some k → get u.names here ≡ Some k → get t.names (here ++ rest) ≡ get u.names (here ++ rest)
    same_from here [] k at_t at_u = ap (get t.names) (append-nil here) ∙ at_t ∙ sym (ap (get u.names) (append-nil here) ∙ at_u)
    same_from here (x ∷ rest) k at_t at_u =
        ap (get t.names) (sym (append_assoc here (x ∷ []) rest)) ∙ by (which (entries_of m k x)) (λ j one two. same_from (here ++ x ∷ []) rest j one two) ∙ ap (get u.names) (append_assoc here (x ∷ []) rest)
      where
        inode : (y : Inode) × (m k ≡ Some y)
        inode = inode_named limit m t a here k at_t

        in_t : get t.names (here ++ x ∷ []) ≡ entries_of m k x
        in_t = step_at (entries_of m) (get t.names) a.goes here x k at_t

        in_u : get u.names (here ++ x ∷ []) ≡ entries_of m k x
        in_u = step_at (entries_of w) (get u.names) c.goes here x k at_u ∙ sym (same_entries k inode.0 x inode.1)

        by : (entries_of m k x ≡ None) ⊎ ((j : ℕ) × (entries_of m k x ≡ Some j))
            → ((j : ℕ) → get t.names (here ++ x ∷ []) ≡ Some j → get u.names (here ++ x ∷ []) ≡ Some j → get t.names ((here ++ x ∷ []) ++ rest) ≡ get u.names ((here ++ x ∷ []) ++ rest))
            → get t.names ((here ++ x ∷ []) ++ rest) ≡ get u.names ((here ++ x ∷ []) ++ rest)
        by (inl none) on = nowhere (entries_of m) (get t.names) a.goes (here ++ x ∷ []) rest (in_t ∙ none) ∙ sym (nowhere (entries_of w) (get u.names) c.goes (here ++ x ∷ []) rest (in_u ∙ none))
        by (inr some) on = on some.0 (in_t ∙ some.1) (in_u ∙ some.1)

    -- so both trees have the same paths
    same_names : t.names ≡ u.names
    same_names = same_map path_total path_same t.names u.names (λ p. same_from [] p 1 a.sound.root c.sound.root)

    -- each node in use was seen
    pub all_seen : (k : ℕ) (x : Inode) → w k ≡ Some x → (y : Inode) × (m k ≡ Some y)
    all_seen k x in_w =
        let p = path_to limit w u c k x in_w in
        inode_named limit m t a p.0 k (ap (λ names. get names p.0) same_names ∙ p.1)

    -- and each file says how many slots name it
    pub links_fit : (k one all : ℕ) (bytes more : List ℕ) → m k ≡ Some (AFile one bytes) → w k ≡ Some (AFile all more) → one ≡ all
    links_fit k one all bytes more in_m in_w = sym (a.links k one bytes in_m) ∙ ap (λ names. path_count names k) same_names ∙ c.links k all more in_w
