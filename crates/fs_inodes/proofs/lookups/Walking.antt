-- Walks in the inode map are walks in the tree, and what is at a path is the inode there.
use Rattle.std.proofs.Common.{◌≡◌, ℕ, Bool, true, true≢false, List, [], ◌∷◌, ◌++◌, Option, Some, None, is_some, option_map, option_and_then, Result, Ok, sym, refl, ap, ap₂, ◌∙◌, arith}
use Rattle.std.proofs.lemmas.Bool.{false_from_ne_true}
use Rattle.std.specs.FinMap.{get}
use Rattle.std.proofs.lemmas.Option.{none-some}
use Rattle.layout_bytes.specs.declared.slot.Slot.{Slot}
use Rattle.lang_tree.specs.declared.command.Refusal.{Refusal}
use Rattle.lang_tree.specs.Tree.{Tree}
use Rattle.lang_tree.specs.Paths.{parent}
use Rattle.lang_tree.specs.Names.{path_count, holds_names}
use Rattle.lang_tree.specs.Walk.{enter, walk, walk_from, is_dir, is_file, bytes_in, no_directory, parent_refusal, thing_at, content, links, counted, is_same_node, are_same, is_there}
use Rattle.crash_stands.specs.Inodes.{Inode, Inodes, ADir, AFile, thing_of}
use Rattle.crash_stands.specs.Walks.{entries_of, entry_in, walk as walk_map}
use Rattle.fs_inodes.specs.Lookups.{is_dir_inode, is_file_inode, is_list, has_slots, links_in, bytes_of, walk_on, number_at, inode_at}
use Rattle.fs_inodes.specs.Refusals.{dir_reason, parent_reason}
use Rattle.fs_inodes.specs.TreeLaws.{TreeLaws}
use Rattle.fs_inodes.proofs.basics.Paths.{Path}
use Rattle.fs_inodes.proofs.slots.Slots.{finds}
use Rattle.fs_inodes.proofs.agreement.Steps.{step_at}
use Rattle.fs_inodes.proofs.agreement.Agree.{Agrees, onward}

-- whether an inode is a directory
pub dir_given : (o : Option Inode) → is_dir (option_map thing_of o) ≡ is_dir_inode o
dir_given o = grind arith

-- whether it is a file
pub file_given : (o : Option Inode) → is_file (option_map thing_of o) ≡ is_file_inode o
file_given o = grind arith

-- its bytes
pub bytes_given : (o : Option Inode) → bytes_in (option_map thing_of o) ≡ bytes_of o
bytes_given o = grind arith

-- what is walked with an entry is the walk from the directory
enters : (b : Bool) (o : Option ℕ) (f h : ℕ → Result ℕ Refusal) → ((j : ℕ) → o ≡ Some j → f j ≡ h j) → enter b o f ≡ enter b o h
enters b o f h h1 = grind arith

-- a walk that comes to its end meets directories alone
ended : (m : Inodes) (k n : ℕ) (rest : Path) → walk_on m k rest ≡ Ok n → walk_map (entries_of m) k rest ≡ Some n
ended m k n [] e = cc
ended m k n (name ∷ rest) e = grind (arith, λ (j : ℕ). ended m j n rest)

-- what has an entry is a directory
is_dir_with : (o : Option Inode) (name : List ℕ) (j : ℕ) → entry_in o name ≡ Some j → is_dir_inode o ≡ true
is_dir_with o name j h1 = grind (arith, none-some)

-- a path that leads somewhere is walked to its end
pub comes_to_end : (m : Inodes) (k n : ℕ) (rest : Path) → walk_map (entries_of m) k rest ≡ Some n → walk_on m k rest ≡ Ok n
comes_to_end m k n [] e = cc
comes_to_end m k n (name ∷ rest) e = grind (arith, λ (j : ℕ). comes_to_end m j n rest, entry_in (m k) name, none-some, is_dir_with)

-- of walks from the root
pub walk_ends : (m : Inodes) (n : ℕ) (path : Path) → walk_on m 1 path ≡ Ok n → walk_map (entries_of m) 1 path ≡ Some n
walk_ends m n path e = ended m 1 n path e

module _ (limit : ℕ) (m : Inodes) (t : Tree) (a : Agrees limit m t) where
  -- a walk goes on in the map as in the tree
  pub walks_from : (here rest : Path) (k : ℕ) → get t.names here ≡ Some k → walk_from t here k rest ≡ walk_on m k rest
  walks_from here [] k at = refl
  walks_from here (name ∷ rest) k at = grind (arith, walks_from (here ++ name ∷ []) rest, a.nodes, dir_given, step_at, t.names, a.goes, enters)

  -- a walk from the root
  pub walks : (path : Path) → walk t path ≡ walk_on m 1 path
  walks path = walks_from [] path 1 a.sound.root

  -- the number at a path
  pub number_given : (path : Path) → get t.names path ≡ number_at m path
  number_given path = onward (entries_of m) (get t.names) a.goes [] path 1 a.sound.root

  -- the node at a path
  pub thing_given : (path : Path) → thing_at t path ≡ option_map thing_of (inode_at m path)
  thing_given path = grind (arith, number_at m path, t.nodes, number_given, a.nodes)

  -- the bytes at a path
  pub content_given : (path : Path) → content t path ≡ bytes_of (inode_at m path)
  content_given path = ap bytes_in (thing_given path) ∙ bytes_given (inode_at m path)

  -- whether a directory is there
  pub is_dir_given : (path : Path) → is_dir (thing_at t path) ≡ is_dir_inode (inode_at m path)
  is_dir_given path = ap is_dir (thing_given path) ∙ dir_given (inode_at m path)

  -- whether a file is there
  pub is_file_given : (path : Path) → is_file (thing_at t path) ≡ is_file_inode (inode_at m path)
  is_file_given path = ap is_file (thing_given path) ∙ file_given (inode_at m path)

  -- whether something is there
  pub there_given : (path : Path) → is_there t path ≡ is_some (number_at m path)
  there_given path = ap is_some (number_given path)

  -- whether two paths lead to one node
  pub same_node_given : (p q : Path) → is_same_node t p q ≡ are_same (number_at m p) (number_at m q)
  same_node_given p q = ap₂ are_same (number_given p) (number_given q)

  -- why a path can't come to be there
  pub parent_given : (path : Path) → parent_refusal t path ≡ parent_reason m path
  parent_given [] = refl
  parent_given (name ∷ names) = ap (no_directory t) (walks (parent (name ∷ names))) ∙ by (walk_on m 1 (parent (name ∷ names)))
    where
      by : (r : Result ℕ Refusal) → no_directory t r ≡ dir_reason m r
      by r = grind (arith, a.nodes, dir_given)

  module _ (laws : TreeLaws) where
    -- the links of what is there
    pub links_given : (path : Path) → links t path ≡ links_in (inode_at m path)
    links_given path = by (get t.names path) refl ∙ ap (λ o. links_in (option_and_then m o)) (number_given path)
      where
        by_inode : (n : ℕ) → get t.names path ≡ Some n → (o : Option Inode) → m n ≡ o → path_count t.names n ≡ links_in o
        by_inode n at None is = let x = a.sound.named path n at in absurd (none-some x.0 (sym (a.nodes n ∙ ap (option_map thing_of) is) ∙ x.1))
        by_inode n at (Some (ADir slots)) is = laws.count_dir limit t path n a.sound at (a.nodes n ∙ ap (option_map thing_of) is)
        by_inode n at (Some (AFile links bytes)) is = a.links n links bytes is

        by : (o : Option ℕ) → get t.names path ≡ o → counted t o ≡ links_in (option_and_then m o)
        by o h1 = grind (arith, by_inode)

    -- some path lies below a directory that has a slot
    held_by_slot : (path : Path) (n : ℕ) (slots : List Slot) → get t.names path ≡ Some n → m n ≡ Some (ADir slots) → is_list slots ≡ true → holds_names t.names path ≡ true
    held_by_slot path n [] at is e = absurd (true≢false (sym e))
    held_by_slot path n (s ∷ slots) at is e =
        laws.held t.names path [] s.name s.node
        (step_at (entries_of m) (get t.names) a.goes path s.name n at ∙ ap (λ o. entry_in o s.name) is ∙ finds (s ∷ slots) 0 s (a.distinct n (s ∷ slots) is) refl)

    -- and only there
    slot_by_held : (path : Path) → holds_names t.names path ≡ true → has_slots (inode_at m path) ≡ true
    slot_by_held path e = grind (arith, laws.holds limit t path a.sound e, laws.holds, a.sound, a.sound.parents, t.names, a.goes, none-some, number_given)

    -- whether it holds names
    pub holds_given : (path : Path) → holds_names t.names path ≡ has_slots (inode_at m path)
    holds_given path = grind (arith, number_at m path, number_given path, has_slots (inode_at m path), holds_names t.names path, t.names, held_by_slot, number_given, false_from_ne_true, slot_by_held)
