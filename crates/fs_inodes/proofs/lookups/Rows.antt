-- The names that a tree has in a directory, as a finite map from names to numbers: those of the slots.
use Rattle.std.proofs.Common.{◌≡◌, ℕ, suc, ◌+◌, Bool, cond, ◌&&◌, T, List, [], ◌∷◌, ◌++◌, map, length, bytes_eq, Option, Some, None, is_some, option_map, option_and_then, refl, sym, ap, ◌∙◌, ◌⊎◌, inl, inr, arith}
use Rattle.std.specs.List.{filter_map}
use Rattle.std.specs.Ordering.{nat_cmp, eq_by_cmp, ordering_then}
use Rattle.std.specs.declared.cmp.Ordering.{Ordering}
use Rattle.std.specs.declared.cmp.Ordering.TheVariants.{Equal}
use Rattle.std.specs.Cmp.{IsTotalOrder, nat_cmp_total, tied_itself}
use Rattle.std.specs.Cmp.Lexicographic.{slice_cmp, lists_total}
use Rattle.std.specs.FinMap.{IsAntisymmetric, nat_cmp-IsAntisymmetric, slice_cmp-IsAntisymmetric, get, entries, keys, from_sorted, find, is_sorted, entries_sorted, get-entries, get-from_entries, get-from_sorted, entries-from_sorted, same_map, len, len-entries, len-empty, len-insert}
use Rattle.std.specs.FinMap.Entries.{below_all}
use Rattle.std.proofs.lemmas.Option.{same_Some, none-some}
use Rattle.layout_bytes.specs.declared.slot.Slot.{Slot}
use Rattle.lang_tree.specs.Tree.{Tree, path_cmp}
use Rattle.lang_tree.specs.Paths.{strip, name_in, lone_name}
use Rattle.lang_tree.specs.Names.{names_in}
use Rattle.crash_stands.specs.Inodes.{Inode, Inodes, AreDistinct}
use Rattle.crash_stands.specs.Walks.{entry_in, node_in}
use Rattle.fs_inodes.specs.Lookups.{slots_of, inode_at, number_at}
pub use Rattle.fs_inodes.specs.Names.{row_in, names_of}
use Rattle.fs_inodes.proofs.basics.Paths.{Path, which, strip_is, strip_join, same_name, other_name}
use Rattle.fs_inodes.proofs.basics.FinMaps.{path_total, path_same, tied, which_key}
use Rattle.fs_inodes.proofs.slots.Slots.{rest_distinct, found}
use Rattle.fs_inodes.proofs.agreement.Agree.{Agrees}
use Rattle.fs_inodes.proofs.lookups.Walking.{number_given}

-- names in order
abbrev pub name_cmp : List ℕ → List ℕ → Ordering
name_cmp = slice_cmp nat_cmp

-- any two names are in order
pub name_total : IsTotalOrder name_cmp
name_total = lists_total nat_cmp_total

-- names that tie are equal
pub name_same : IsAntisymmetric name_cmp
name_same = slice_cmp-IsAntisymmetric nat_cmp-IsAntisymmetric

-- Paths of one directory are ordered as their last names are.

-- a tie later on decides nothing
then_equal : (o : Ordering) → ordering_then o Equal ≡ o
then_equal o = grind arith

-- behind one front the last names decide
pub same_front : (up : Path) (b c : List ℕ) → path_cmp (up ++ b ∷ []) (up ++ c ∷ []) ≡ name_cmp b c
same_front [] b c = then_equal (name_cmp b c)
same_front (x ∷ up) b c = ap (λ o. ordering_then o (path_cmp (up ++ b ∷ []) (up ++ c ∷ []))) (tied_itself name_total x) ∙ same_front up b c

-- The entries of a directory.

-- the last name and the number of a path in the directory at `up`
abbrev pub part_in : Path → Path × ℕ → Option (List ℕ × ℕ)
part_in up e = option_map (λ b. (b, e.1)) (name_in up e.0)

-- the names of a directory with their numbers
abbrev pub row_of : Path → List (Path × ℕ) → List (List ℕ × ℕ)
row_of up es = filter_map (part_in up) es

-- a path in the directory itself ends with the name
pub lone_is : (up p : Path) (b : List ℕ) → name_in up p ≡ Some b → p ≡ up ++ b ∷ []
lone_is up p b e = by (strip up p) refl e
  where
    by : (o : Option Path) → strip up p ≡ o → lone_name o ≡ Some b → p ≡ up ++ b ∷ []
    by o h1 h2 = grind (arith, none-some, strip_is, same_Some)

-- and a path with the name does
pub lone_at : (up : Path) (b : List ℕ) → name_in up (up ++ b ∷ []) ≡ Some b
lone_at up b = ap lone_name (strip_join up (b ∷ []))

-- both hold
pub both_of : (a b : Bool) → T (a && b) → (T a) × (T b)
both_of a b h1 = grind arith

-- and together
pub join_of : (a b : Bool) → T a → T b → T (a && b)
join_of a b h1 h2 = grind arith

module _ (up : Path) where
  -- where all paths come behind one of the directory, all names do
  below_row : (b : List ℕ) (es : List (Path × ℕ)) → T (below_all path_cmp (up ++ b ∷ []) es) → T (below_all name_cmp b (row_of up es))
  below_row b [] h = tt
  below_row b (e ∷ es) h = grind (arith, below_row b es, name_in up e.0, both_of, join_of, lone_is, same_front)

  -- the names of a directory rise
  pub sorted_row : (es : List (Path × ℕ)) → T (is_sorted path_cmp es) → T (is_sorted name_cmp (row_of up es))
  sorted_row [] h = tt
  sorted_row (e ∷ es) h = grind (arith, sorted_row es, name_in up e.0, both_of, join_of, below_row, lone_is)

  -- a name is found in the directory as its path is found among all paths
  found_row : (b : List ℕ) (es : List (Path × ℕ)) → find name_cmp b (row_of up es) ≡ find path_cmp (up ++ b ∷ []) es
  found_row b [] = refl
  found_row b (e ∷ es) = grind (arith, found_row b es, name_in up e.0, which_key path_total path_same (up ++ b ∷ []) e.0, which_key, path_total, path_same, none-some, lone_at, same_front, lone_is)

  -- its names are those of the directory
  names_row : (es : List (Path × ℕ)) → map (λ e. e.0) (row_of up es) ≡ filter_map (λ e. name_in up e.0) es
  names_row [] = refl
  names_row (e ∷ es) = grind (arith, names_row es, name_in up e.0)

-- The slots of a directory, as a finite map.

-- the names of slots with their numbers
abbrev pub pairs_of : List Slot → List (List ℕ × ℕ)
pairs_of slots = map (λ s. (s.name, s.node)) slots

-- two tests of names agree
same_test : (a b : List ℕ) → eq_by_cmp name_cmp a b ≡ bytes_eq b a
same_test a b = grind (arith, which_key name_total name_same a b, which_key, name_total, name_same, tied, same_name, other_name)

-- a name is found among slots as it is under them
find_slot : (slots : List Slot) (b : List ℕ) → find name_cmp b (pairs_of slots) ≡ node_in slots b
find_slot [] b = refl
find_slot (s ∷ slots) b = ap (λ t. cond t (Some s.node) (find name_cmp b (pairs_of slots))) (same_test b s.name) ∙ ap (cond (bytes_eq s.name b) (Some s.node)) (find_slot slots b)

-- under each name the map of the slots has what the slots have
pub row_at : (slots : List Slot) (b : List ℕ) → get (row_in slots) b ≡ node_in slots b
row_at slots b = get-from_entries name_total (pairs_of slots) b ∙ find_slot slots b

-- and none has the first one's
pub first_new : (x : Slot) (slots : List Slot) → AreDistinct (x ∷ slots) → node_in slots x.name ≡ None
first_new x slots distinct = by (which (node_in slots x.name))
  where
    by : (node_in slots x.name ≡ None) ⊎ ((n : ℕ) × (node_in slots x.name ≡ Some n)) → node_in slots x.name ≡ None
    by (inl none) = none
    by (inr some) = let s = found slots x.name some.0 some.1 in absurd (omega (arith, distinct 0 (suc s.1.0) x s.0 refl s.1.1 (sym s.2)))

-- it has as many names as there are slots
pub row_length : (slots : List Slot) → AreDistinct slots → len (row_in slots) ≡ length slots
row_length [] distinct = len-empty name_cmp ℕ
row_length (s ∷ slots) distinct =
    let new : get (row_in slots) s.name ≡ None = row_at slots s.name ∙ first_new s slots distinct in
    omega (arith, len-insert name_total (row_in slots) s.name s.node ∙ ap (λ o. cond (is_some o) (len (row_in slots)) (len (row_in slots) + 1)) new, row_length slots (rest_distinct s slots distinct))

-- what is under a name in an inode is what its slots have
pub entry_is : (o : Option Inode) (b : List ℕ) → entry_in o b ≡ node_in (slots_of o) b
entry_is o b = grind arith

module _ (limit : ℕ) (m : Inodes) (t : Tree) (a : Agrees limit m t) (up : Path) where
  -- what is under a name at a path, which may be no directory
  name_at : (b : List ℕ) → get t.names (up ++ b ∷ []) ≡ node_in (slots_of (inode_at m up)) b
  name_at b = a.goes up b ∙ ap (option_and_then (λ k. entry_in (m k) b)) (number_given limit m t a up) ∙ by (number_at m up)
    where
      by : (o : Option ℕ) → option_and_then (λ k. entry_in (m k) b) o ≡ node_in (slots_of (option_and_then m o)) b
      by o = grind (arith, entry_is)

  -- the names of the tree's directory are those of the slots, as maps
  pub row_is : from_sorted {R = name_cmp} (row_of up (entries t.names)) ≡ row_in (slots_of (inode_at m up))
  row_is = same_map name_total name_same _ _ (λ b.
      get-from_sorted name_cmp (row_of up (entries t.names)) b (sorted_row up (entries t.names) (entries_sorted t.names))
      ∙ found_row up b (entries t.names) ∙ sym (get-entries t.names (up ++ b ∷ [])) ∙ name_at b ∙ sym (row_at (slots_of (inode_at m up)) b))

  -- and as lists
  pub row_entries : row_of up (entries t.names) ≡ entries (row_in (slots_of (inode_at m up)))
  row_entries = sym (entries-from_sorted name_cmp (row_of up (entries t.names)) (sorted_row up (entries t.names) (entries_sorted t.names))) ∙ ap entries row_is

  -- the names in a directory are those of its slots, in order
  pub names_are : names_in t.names up ≡ keys (row_in (slots_of (inode_at m up)))
  names_are = sym (names_row up (entries t.names)) ∙ ap (map (λ e. e.0)) row_entries

  -- no two slots at the path have one name
  pub here_distinct : AreDistinct (slots_of (inode_at m up))
  here_distinct = grind (arith, inode_at m up, number_at m up, none-some, a.distinct)

  -- as many as before
  map_length : {A B : Type 0} (f : A → B) (xs : List A) → length (map f xs) ≡ length xs
  map_length f [] = refl
  map_length f (x ∷ xs) = ap suc (map_length f xs)

  -- as many as there are slots
  pub names_count : length (names_in t.names up) ≡ length (slots_of (inode_at m up))
  names_count = ap length names_are ∙ map_length (λ e. e.0) (entries (row_in (slots_of (inode_at m up)))) ∙ sym (len-entries (row_in (slots_of (inode_at m up))))
      ∙ row_length (slots_of (inode_at m up)) here_distinct
