-- The listing of a tree, path by path: the lines at and below one.
use Rattle.std.specs.Prelude.{ℕ, zero, suc, ◌+◌, List}
use Rattle.std.specs.List.{filter, flat_map}
use Rattle.std.specs.FinMap.{get, entries}
use Rattle.lang_tree.specs.Tree.{Tree}
use Rattle.lang_tree.specs.Paths.{is_within}
use Rattle.lang_tree.specs.Listing.{line_of}
use Rattle.crash_stands.specs.Inodes.{Inodes}
use Rattle.fs_inodes.specs.Lookups.{links_in}

-- the tree's paths at and below one, with their numbers, in their order
abbrev pub at_and_below : Tree → List (List ℕ) → List (List (List ℕ) × ℕ)
at_and_below t path = filter (λ e. is_within path e.0) (entries t.names)

-- their lines in the listing
abbrev pub lines_below : Tree → List (List ℕ) → List ℕ
lines_below t path = flat_map (λ e. line_of e.0 e.1 (get t.nodes e.1)) (at_and_below t path)

-- the links of n numbers from k on
abbrev pub links_from : Inodes → ℕ → ℕ → ℕ
links_from m k zero = 0
links_from m k (suc n) = links_in (m k) + links_from m (k + 1) n
