-- The listing of a tree, from directory to directory of its inode map.
use Rattle.std.proofs.Common.{◌≡◌, ℕ, List, [], ◌∷◌, ◌++◌, Some, is_some, option_map, refl, sym, ap, ap₂, ◌∙◌}
use Rattle.std.proofs.lemmas.Grind.{flat_map-append}
use Rattle.std.specs.List.{flat_map}
use Rattle.std.specs.FinMap.{get, empty, entries, entries_sorted, get-entries}
use Rattle.lang_tree.specs.Tree.{Tree}
use Rattle.lang_tree.specs.Listing.{line_of, path_lines, listing}
use Rattle.crash_stands.specs.Inodes.{Inodes, thing_of}
use Rattle.crash_stands.specs.Walks.{entries_of}
use Rattle.fs_inodes.specs.Lookups.{slots_of}
use Rattle.fs_inodes.specs.Names.{row_in, names_of}
use Rattle.fs_inodes.specs.Listing.{at_and_below, lines_below}
use Rattle.fs_inodes.specs.TreeLaws.{TreeLaws}
use Rattle.fs_inodes.proofs.basics.Paths.{Path}
use Rattle.fs_inodes.proofs.agreement.Steps.{step_at}
use Rattle.fs_inodes.proofs.agreement.Agree.{Agrees, nowhere}
use Rattle.fs_inodes.proofs.lookups.Rows.{entry_is, row_at}
use Rattle.fs_inodes.proofs.lookups.Ordered.{keys_rise, key_found}
use Rattle.fs_inodes.proofs.lookups.Descent.{goes_down, from_root}

-- lines of lists in a row
mapped_twice : {A B C : Type 0} (f : B → List C) (g : A → List B) (xs : List A) → flat_map f (flat_map g xs) ≡ flat_map (λ x. flat_map f (g x)) xs
mapped_twice f g [] = refl
mapped_twice f g (x ∷ xs) = flat_map-append f (g x) (flat_map g xs) ∙ ap (λ l. flat_map f (g x) ++ l) (mapped_twice f g xs)

module _ (limit : ℕ) (m : Inodes) (t : Tree) (a : Agrees limit m t) where
  -- the paths at and below one that leads to k
  pub paths_down : (p : Path) (k : ℕ) → get t.names p ≡ Some k → at_and_below t p ≡ (p, k) ∷ flat_map (λ b. at_and_below t (p ++ b ∷ [])) (names_of (slots_of (m k)))
  paths_down p k at = goes_down t.names p k at (names_of (slots_of (m k))) (keys_rise (entries (row_in (slots_of (m k)))) (entries_sorted (row_in (slots_of (m k)))))
      (λ c. ap is_some (step_at (entries_of m) (get t.names) a.goes p c k at ∙ entry_is (m k) c ∙ sym (row_at (slots_of (m k)) c) ∙ get-entries (row_in (slots_of (m k))) c)
      ∙ sym (key_found c (entries (row_in (slots_of (m k))))))
      (nowhere (entries_of m) (get t.names) a.goes)

  -- and their lines
  pub lines_down : (p : Path) (k : ℕ) → get t.names p ≡ Some k
      → lines_below t p ≡ line_of p k (option_map thing_of (m k)) ++ flat_map (λ b. lines_below t (p ++ b ∷ [])) (names_of (slots_of (m k)))
  lines_down p k at =
      ap (flat_map (λ e. line_of e.0 e.1 (get t.nodes e.1))) (paths_down p k at)
      ∙ ap₂ (λ x y. x ++ y) (ap (line_of p k) (a.nodes k)) (mapped_twice (λ e. line_of e.0 e.1 (get t.nodes e.1)) (λ b. at_and_below t (p ++ b ∷ [])) (names_of (slots_of (m k))))

-- the lines of all paths are those at and below the root
pub root_lines : (t : Tree) → path_lines t.names t.nodes ≡ lines_below t []
root_lines t = ap (flat_map (λ e. line_of e.0 e.1 (get t.nodes e.1))) (sym (from_root t.names))

-- the listing of a tree without snapshots has these lines
pub whole_listing : (laws : TreeLaws) (t : Tree) → t.snapshots ≡ empty → listing t ≡ lines_below t []
whole_listing laws t alone = laws.listed_alone t alone ∙ root_lines t
