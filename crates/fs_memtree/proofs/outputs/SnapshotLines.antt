-- The lines of snapshots in the listing.
use Rattle.std.proofs.Common.{◌≡◌, List, [], ◌∷◌, ◌++◌, map, refl, sym, ap, ◌∙◌, ℕ}
use Rattle.std.specs.List.{flat_map}
use Rattle.std.specs.FinMap.{entries}
use Rattle.lang_tree.specs.Tree as whole
use Rattle.lang_tree.specs.Listing.{path_lines, snapshot_lines, listing}
use Rattle.fs_memtree.specs.declared.state.State.{State}
use Rattle.fs_memtree.specs.declared.snapshots.Snapshot.{Snapshot}
use Rattle.fs_memtree.specs.Kept.{tree_of}
use Rattle.fs_memtree.specs.Snapshots.{kept_by, snapshots_of}
use Rattle.fs_memtree.specs.Serving.{whole_tree}
use Rattle.fs_memtree.proofs.serving.Snapshots.{entries_shown}

-- of these snapshots
abbrev pub kept_lines : List (List ℕ × Snapshot) → List ℕ
kept_lines es = flat_map (λ e. snapshot_lines e.0 (kept_by e.1)) es

lines_mapped : (es : List (List ℕ × Snapshot)) → flat_map (λ (e : List ℕ × whole.Kept). snapshot_lines e.0 e.1) (map (λ e. (e.0, kept_by e.1)) es) ≡ kept_lines es
lines_mapped [] = refl
lines_mapped (e ∷ es) = ap (λ rest. snapshot_lines e.0 (kept_by e.1) ++ rest) (lines_mapped es)

-- the listing has them behind the lines of the tree's paths
pub listing_is : (s : State) → path_lines (tree_of s.nodes).names (tree_of s.nodes).nodes ++ kept_lines (entries s.kept) ≡ listing (whole_tree s)
listing_is s =
    ap (λ rest. path_lines (tree_of s.nodes).names (tree_of s.nodes).nodes ++ rest)
    (sym (lines_mapped (entries s.kept)) ∙ ap (flat_map (λ (e : List ℕ × whole.Kept). snapshot_lines e.0 e.1)) (sym (entries_shown s.kept)))
