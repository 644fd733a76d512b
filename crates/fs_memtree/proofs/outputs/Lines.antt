-- The lines at and below a path: its own, and then those below each name of its directory, as the code goes through them.
use Rattle.std.proofs.Common.{◌≡◌, ℕ, ◌-◌, ◌<◌, List, [], ◌∷◌, ◌++◌, length, map, flat_map, Option, Some, None, Bor, option_map, option_and_then, refl, sym, ap, subst, ◌∙◌, append-nil, append_assoc, length-append, arith, T}
use Rattle.std.specs.FinMap.{get, entries, len, find, is_sorted, get-entries, entries_sorted}
use Rattle.std.proofs.lemmas.Bool.Decides.{nat_tests}
use Rattle.lang_tree.specs.Tree.{Tree, Thing}
use Rattle.lang_tree.specs.Listing.{line_of}
use Rattle.crash_stands.specs.Inodes.{thing_of}
use Rattle.crash_stands.specs.Maps.{IsMapOf}
use Rattle.crash_stands.specs.Walks.{entry_in, LeadsTo}
use Rattle.fs_inodes.specs.Listing.{lines_below}
use Rattle.fs_inodes.specs.Lookups.{slots_of}
use Rattle.fs_inodes.specs.Names.{names_of}
use Rattle.fs_memtree.specs.declared.node.Node.{Node}
use Rattle.fs_memtree.specs.Kept.{DirNames, name_cmp, Kept, KeptDir, KeptFile, KeptNodes, map_of, inode_of, tree_of}
use Rattle.fs_memtree.specs.Stored.{kept}
use Rattle.fs_memtree.proofs.maps.Depth.{depth}
use Rattle.fs_memtree.proofs.maps.Slots.{names_of_dir, names_of_file, names_of_none, entry_of_dir, find_mid}
use Rattle.fs_memtree.proofs.maps.Walking.{number_last}

-- what a node that was looked up is to its line
abbrev pub seen : Option (Bor Node) → Option Thing
seen o = option_map (λ node. thing_of (inode_of (kept node.now))) o

pub seen_is : (o : Option (Bor Node)) (x : Option Kept) → option_map (λ node. kept node.now) o ≡ x → seen o ≡ option_map thing_of (option_map inode_of x)
seen_is o x is = grind (arith, nat_tests)

-- each of these names leads to its number from node k
abbrev pub AllFound : KeptNodes → ℕ → List (List ℕ × ℕ) → Type 0
AllFound nodes k [] = Unit {0}
AllFound nodes k (e ∷ es) = (entry_in (map_of nodes k) e.0 ≡ Some e.1) × AllFound nodes k es

module _ (t : Tree) (path : List (List ℕ)) where
  -- the lines below these names
  abbrev pub below : List (List ℕ × ℕ) → List ℕ
  below es = flat_map (λ e. lines_below t (path ++ e.0 ∷ [])) es

  below_keys : (es : List (List ℕ × ℕ)) → flat_map (λ name. lines_below t (path ++ name ∷ [])) (map (λ (e : List ℕ × ℕ). e.0) es) ≡ below es
  below_keys [] = refl
  below_keys (e ∷ es) = ap (λ rest. lines_below t (path ++ e.0 ∷ []) ++ rest) (below_keys es)

-- What the law of listings says of a node that was looked up.
module _ (limit : ℕ) (nodes : KeptNodes) (is : IsMapOf limit (map_of nodes) (tree_of nodes)) (path : List (List ℕ)) (k : ℕ) (leads : LeadsTo (map_of nodes) path k)
    (law : lines_below (tree_of nodes) path ≡ line_of path k (option_map thing_of (map_of nodes k)) ++ flat_map (λ name. lines_below (tree_of nodes) (path ++ name ∷ [])) (names_of (slots_of (map_of nodes k))))
    (o : Option (Bor Node)) (at : option_map (λ node. kept node.now) o ≡ get nodes k) where
  own_line : line_of path k (option_map thing_of (map_of nodes k)) ≡ line_of path k (seen o)
  own_line = sym (ap (line_of path k) (seen_is o (get nodes k) at))

  -- some lines come first
  pub front : lines_below (tree_of nodes) path ≡ line_of path k (seen o) ++ flat_map (λ name. lines_below (tree_of nodes) (path ++ name ∷ [])) (names_of (slots_of (map_of nodes k)))
  front = law ∙ ap (λ line. line ++ flat_map (λ name. lines_below (tree_of nodes) (path ++ name ∷ [])) (names_of (slots_of (map_of nodes k)))) own_line

  -- and then those below the names of a directory
  pub of_dir : (names : DirNames) → Some (KeptDir names) ≡ get nodes k → lines_below (tree_of nodes) path ≡ line_of path k (seen o) ++ below (tree_of nodes) path (entries names)
  of_dir names there = front
      ∙ ap (λ rest. line_of path k (seen o) ++ rest) (ap (flat_map (λ name. lines_below (tree_of nodes) (path ++ name ∷ []))) (sym (names_of_dir nodes k names there)) ∙ below_keys (tree_of nodes) path (entries names))

  -- of which a file has none
  pub of_file : (links : ℕ) (bytes : List ℕ) → Some (KeptFile links bytes) ≡ get nodes k → lines_below (tree_of nodes) path ≡ line_of path k (seen o)
  of_file links bytes there = front ∙ ap (λ names. line_of path k (seen o) ++ flat_map (λ name. lines_below (tree_of nodes) (path ++ name ∷ [])) names) (names_of_file nodes k links bytes there) ∙ append-nil _

  pub of_none : None ≡ get nodes k → lines_below (tree_of nodes) path ≡ line_of path k (seen o)
  of_none there = front ∙ ap (λ names. line_of path k (seen o) ++ flat_map (λ name. lines_below (tree_of nodes) (path ++ name ∷ [])) names) (names_of_none nodes k there) ∙ append-nil _

  -- where a name of a directory leads
  pub child : (name : List ℕ) (j : ℕ) → entry_in (map_of nodes k) name ≡ Some j → LeadsTo (map_of nodes) (path ++ name ∷ []) j
  child name j entry = number_last (map_of nodes) path name ∙ ap (option_and_then (λ i. entry_in (map_of nodes i) name)) leads ∙ entry

  -- it is deeper
  pub deeper : (name : List ℕ) → len nodes - length (path ++ name ∷ []) < len nodes - length path
  deeper name = omega (arith, depth limit nodes (tree_of nodes) is path k leads, length-append path (name ∷ []))

-- the names of a directory lead to their numbers: none comes twice
later_found : (nodes : KeptNodes) (k : ℕ) (names : DirNames) → Some (KeptDir names) ≡ get nodes k → (before es : List (List ℕ × ℕ)) → entries names ≡ before ++ es → AllFound nodes k es
later_found nodes k names there before [] is = tt
later_found nodes k names there before (e ∷ es) is = (
  sym (entry_of_dir nodes k names e.0 there) ∙ get-entries names e.0 ∙ ap (find name_cmp e.0) is ∙ find_mid before e es (subst (λ l. T (is_sorted name_cmp l)) is (entries_sorted names)),
  later_found nodes k names there (before ++ e ∷ []) es (is ∙ sym (append_assoc before (e ∷ []) es)),
)

pub all_found : (nodes : KeptNodes) (k : ℕ) (names : DirNames) → Some (KeptDir names) ≡ get nodes k → AllFound nodes k (entries names)
all_found nodes k names there = later_found nodes k names there [] (entries names) refl
