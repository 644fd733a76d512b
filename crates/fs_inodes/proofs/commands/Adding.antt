-- A name comes to a directory: of a new node, or of a file that is there already. A slot behind the last one is such a name.
use Rattle.std.proofs.Common.{◌≡◌, ℕ, ◌+◌, ◌≤◌, ◌==◌, if◌then◌else◌, List, [], ◌∷◌, ◌++◌, Option, Some, None, option_map, option_and_then, sym, ap, ◌∙◌, ◌⊎◌, inl, inr, arith, eq-eqb, ne_eqb}
use Rattle.std.proofs.lemmas.Bool.{cases_eq}
use Rattle.std.specs.FinMap.{get, insert}
use Rattle.std.proofs.lemmas.Option.{same_Some, none-some}
use Rattle.layout_bytes.specs.declared.slot.Slot.{Slot}
use Rattle.lang_tree.specs.Tree.{Tree, Thing, Dir}
use Rattle.lang_tree.specs.Paths.{parent}
use Rattle.lang_tree.specs.Names.{path_count}
use Rattle.crash_stands.specs.Inodes.{Inode, Inodes, ADir, AFile, AreDistinct, thing_of}
use Rattle.crash_stands.specs.Walks.{entries_of, entry_in, node_in}
use Rattle.fs_inodes.specs.Changes.{slot_of, new_inode, AddsSlot, AddsName}
use Rattle.fs_inodes.specs.TreeLaws.{TreeLaws}
use Rattle.fs_inodes.proofs.basics.Paths.{Path, parent_end}
use Rattle.fs_inodes.proofs.basics.FinMaps.{name_here, name_look, node_here, node_other}
use Rattle.fs_inodes.proofs.slots.Slots.{added_distinct, added_here, added_other}
use Rattle.fs_inodes.proofs.agreement.Steps.{EntryIs, step_at, turn_goes}
use Rattle.fs_inodes.proofs.agreement.Agree.{Agrees, GoesOn}

-- the slots of a directory are one list
pub one_dir : {o : Option Inode} (slots others : List Slot) → o ≡ Some (ADir slots) → o ≡ Some (ADir others) → slots ≡ others
one_dir slots others e f = cc

-- a directory is no file
pub dir_file : {o : Option Inode} (slots : List Slot) (links : ℕ) (bytes : List ℕ) → o ≡ Some (ADir slots) → o ≡ Some (AFile links bytes) → ⊥
dir_file slots links bytes e f = cc

-- the links of a file are one number
pub one_file : {o : Option Inode} (links others : ℕ) (bytes more : List ℕ) → o ≡ Some (AFile links bytes) → o ≡ Some (AFile others more) → links ≡ others
one_file links others bytes more e f = cc

-- one for the number itself, and none for another
abbrev pub one_if : ℕ → ℕ → ℕ
one_if m n = if m == n then 1 else 0

-- the number itself counts
pub counts_one : (m n : ℕ) → m ≡ n → one_if m n ≡ 1
counts_one m n e = ap (λ b. if b then 1 else 0) (eq-eqb m n e)

-- another number doesn't
pub counts_none : (m n : ℕ) → (m ≡ n → ⊥) → one_if m n ≡ 0
counts_none m n off = ap (λ b. if b then 1 else 0) (ne_eqb m n off)

-- A slot behind the last one.
module _ (limit : ℕ) (m new : Inodes) (t : Tree) (a : Agrees limit m t) (up : Path) (name : List ℕ) (d n : ℕ) (x : Inode)
    (at_up : get t.names up ≡ Some d) (free : get t.names (up ++ name ∷ []) ≡ None) (ch : AddsSlot m new d n name x) where
  -- no slot has the new name
  slots_free : node_in ch.slots name ≡ None
  slots_free = sym (step_at (entries_of m) (get t.names) a.goes up name d at_up ∙ ap (λ o. entry_in o name) ch.dir) ∙ free

  -- no two slots have one name
  slots_distinct : AreDistinct ch.slots
  slots_distinct = a.distinct d ch.slots ch.dir

  -- it is a name that comes
  pub adds_name : AddsName m new d n name x
  adds_name = record {
    under = record {
      slots = ch.slots;
      dir = ch.dir;
      after = ch.slots ++ slot_of n name ∷ [];
      now = ch.added;
      here = added_here ch.slots (slot_of n name) slots_distinct slots_free;
      others = added_other ch.slots (slot_of n name) slots_distinct slots_free;
      distinct = added_distinct ch.slots (slot_of n name) slots_distinct slots_free;
    };
    named = ch.named;
    others = ch.others;
  }

module _ (laws : TreeLaws) (limit : ℕ) (m new : Inodes) (t : Tree) (a : Agrees limit m t) (up : Path) (name : List ℕ) (d n : ℕ) (x : Inode)
    (at_up : get t.names up ≡ Some d) (free : get t.names (up ++ name ∷ []) ≡ None) (ch : AddsName m new d n name x) where
  -- the directory is one of the tree
  pub up_dir : get t.nodes d ≡ Some Dir
  up_dir = a.nodes d ∙ ap (option_map thing_of) ch.under.dir

  -- its path is its only one
  pub up_only : (q : Path) → get t.names q ≡ Some d → q ≡ up
  up_only q at = a.sound.one_path d q up up_dir at at_up

  -- it is the parent of the new path
  pub up_at : get t.names (parent (up ++ name ∷ [])) ≡ Some d
  up_at = ap (get t.names) (parent_end up name) ∙ at_up

  module _ (empty_new : (b : List ℕ) → entry_in (Some x) b ≡ None) (empty_old : (b : List ℕ) → entry_in (m n) b ≡ None) where
    -- the entry under the new name is the new one, and no other changed
    entry : EntryIs (entries_of m) (entries_of new) d name (Some n)
    entry = grind (arith, ch.under.now, ch.under.here, ch.under.others, ch.under.dir, ch.named, ch.others)

    -- the paths with the new one go on as the new entries do
    pub added_goes : GoesOn (entries_of new) (get (insert t.names (up ++ name ∷ []) n))
    added_goes = turn_goes (entries_of m) (entries_of new) (get t.names) (get (insert t.names (up ++ name ∷ []) n)) a.goes up name d (Some n) at_up up_only entry
        (λ b. ap (option_and_then (λ k. entries_of m k b)) free) (λ b. ap (λ o. entry_in o b) ch.named ∙ empty_new b) (name_here t.names (up ++ name ∷ []) n) (name_look t.names (up ++ name ∷ []) n)

  -- the slots of each directory have names of their own
  pub added_slots_distinct : ((slots : List Slot) → x ≡ ADir slots → AreDistinct slots) → (k : ℕ) (slots : List Slot) → new k ≡ Some (ADir slots) → AreDistinct slots
  added_slots_distinct own k slots is = grind (arith, cases_eq k d, cases_eq k n, ch.under.after, ch.under.distinct, ch.under.now, same_Some, ch.named, a.distinct, ch.others)

  -- a number that no node has has no path
  no_paths : m n ≡ None → path_count t.names n ≡ 0
  no_paths none = grind (arith, path_count t.names n, t.names, laws.count_found, a.sound.named, none-some, a.nodes)

  -- A new node.
  module _ (thing : Thing) (is_new : x ≡ new_inode thing) (unused : m n ≡ None) (low : 1 ≤ n) (high : n ≤ limit) where
    -- a node that is new has no entry
    nothing_in : (y : Thing) (b : List ℕ) → entry_in (Some (new_inode y)) b ≡ None
    nothing_in y b = grind arith

    -- it is what it was made for
    thing_is : (y : Thing) → thing_of (new_inode y) ≡ y
    thing_is y = grind arith

    -- it has no slots
    new_distinct : (y : Thing) (slots : List Slot) → new_inode y ≡ ADir slots → AreDistinct slots
    new_distinct y slots h1 = grind (arith, none-some)

    -- if it is a file, it has one link
    one_link : (y : Thing) (links : ℕ) (bytes : List ℕ) → new_inode y ≡ AFile links bytes → links ≡ 1
    one_link y links bytes h1 = grind arith

    -- the nodes with the new one are those of the new map
    new_nodes : (k : ℕ) → get (insert t.nodes n thing) k ≡ option_map thing_of (new k)
    new_nodes k = by (cases_eq k n) (cases_eq k d)
      where
        by : (k ≡ n) ⊎ (k ≡ n → ⊥) → (k ≡ d) ⊎ (k ≡ d → ⊥) → get (insert t.nodes n thing) k ≡ option_map thing_of (new k)
        by (inl e) side = node_here t.nodes n thing k e ∙ sym (ap (λ k. option_map thing_of (new k)) e ∙ ap (option_map thing_of) (ch.named ∙ ap Some is_new) ∙ ap Some (thing_is thing))
        by (inr off) (inl e) = node_other t.nodes n thing k off ∙ ap (get t.nodes) e ∙ up_dir ∙ sym (ap (λ k. option_map thing_of (new k)) e ∙ ap (option_map thing_of) ch.under.now)
        by (inr off) (inr away) = node_other t.nodes n thing k off ∙ a.nodes k ∙ ap (option_map thing_of) (sym (ch.others k away off))

    -- each file has as many paths as links: the new one has one
    new_links : (k links : ℕ) (bytes : List ℕ) → new k ≡ Some (AFile links bytes) → path_count (insert t.names (up ++ name ∷ []) n) k ≡ links
    new_links k links bytes is = grind (arith, up ++ name ∷ [], cases_eq k d, cases_eq k n, t.names, laws.count_put, dir_file, ch.under.after, ch.under.now, one_link, same_Some, ch.named, no_paths, counts_one, counts_none, a.links, ch.others)

    -- the new map is that of the tree with the new node
    pub node_agrees : Agrees limit new (record t { names = insert t.names (up ++ name ∷ []) n; nodes = insert t.nodes n thing })
    node_agrees = record {
      sound = laws.sound_node limit t (up ++ name ∷ []) n d thing a.sound free (a.nodes n ∙ ap (option_map thing_of) unused) low high up_at up_dir;
      goes = added_goes (λ b. ap (λ y. entry_in (Some y) b) is_new ∙ nothing_in thing b) (λ b. ap (λ o. entry_in o b) unused);
      nodes = new_nodes;
      links = new_links;
      distinct = added_slots_distinct (λ slots e. new_distinct thing slots (sym is_new ∙ e));
    }

  -- Another path of a file.
  module _ (links : ℕ) (bytes : List ℕ) (old : m n ≡ Some (AFile links bytes)) (more : x ≡ AFile (links + 1) bytes) where
    -- the nodes are those of the new map, as before
    link_nodes : (k : ℕ) → get t.nodes k ≡ option_map thing_of (new k)
    link_nodes k = grind (arith, cases_eq k d, cases_eq k n, option_map thing_of, a.nodes, ch.under.dir, ch.under.now, ch.named, ch.others)

    -- each file has as many paths as links: this one has one more
    link_links : (k l : ℕ) (b : List ℕ) → new k ≡ Some (AFile l b) → path_count (insert t.names (up ++ name ∷ []) n) k ≡ l
    link_links k l b is = by (cases_eq k d) (cases_eq k n)
      where
        count : path_count (insert t.names (up ++ name ∷ []) n) k ≡ one_if n k + path_count t.names k
        count = laws.count_put t.names (up ++ name ∷ []) n k free

        by : (k ≡ d) ⊎ (k ≡ d → ⊥) → (k ≡ n) ⊎ (k ≡ n → ⊥) → path_count (insert t.names (up ++ name ∷ []) n) k ≡ l
        by (inl e) side = absurd (dir_file ch.under.after l b (ap new e ∙ ch.under.now) is)
        by (inr away) (inl e) =
            let now : l ≡ links + 1 = one_file l (links + 1) b bytes is (ap new e ∙ ch.named ∙ ap Some more) in
            omega (arith, count, counts_one n k (sym e), a.links k links bytes (ap m e ∙ old), now)
        by (inr away) (inr off) = omega (arith, count, counts_none n k (λ e. off (sym e)), a.links k l b (sym (ch.others k away off) ∙ is))

    -- the new map is that of the tree with the new path
    pub link_agrees : Agrees limit new (record t { names = insert t.names (up ++ name ∷ []) n })
    link_agrees = record {
      sound = laws.sound_path limit t (up ++ name ∷ []) n d bytes a.sound free (a.nodes n ∙ ap (option_map thing_of) old) up_at up_dir;
      goes = added_goes (λ b. ap (λ y. entry_in (Some y) b) more) (λ b. ap (λ o. entry_in o b) old);
      nodes = link_nodes;
      links = link_links;
      distinct = added_slots_distinct (λ slots e. absurd (dir_file slots (links + 1) bytes (ap Some e) (ap Some more)));
    }
