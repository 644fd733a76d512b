-- What snapshots keep beside the nodes of the tree: each the nodes of a tree as it was, under a number of its own.
use Rattle.std.specs.Prelude.{◌≡◌, ℕ, ◌==◌, Bool, not, ◌&&◌, List, map, is_none, find, Option, None, Some, refl}
use Rattle.std.specs.Coded.{Coded, code_by, coded_list, coded_ℕ, coded×}
use Rattle.std.specs.List.{list_any, range_with_len}
use Rattle.std.specs.FinMap.{FinMap, get, entries, from_sorted}
use Rattle.std.specs.FinMap as finite
use Rattle.lang_tree.specs.Tree.{Snapshots}
use Rattle.lang_tree.specs.Tree as whole
use Rattle.fs_memtree.specs.declared.snapshots.Snapshot.{Snapshot}
use Rattle.fs_memtree.specs.Kept.{KeptNodes, name_cmp, coded_kept, tree_of}

-- by their names
abbrev pub KeptSnapshots : Type 0
KeptSnapshots = FinMap name_cmp Snapshot

-- how they are stored, so that they can be the value of a model
pub coded_snapshots : Coded KeptSnapshots
coded_snapshots = finite.code (coded_list coded_ℕ)
    (code_by (ℕ × KeptNodes) (coded× coded_ℕ (finite.code coded_ℕ coded_kept)) (λ x. (x.number, x.nodes)) (λ p. record { number = p.0; nodes = p.1 }) (λ _. refl))

-- what a snapshot keeps, as a tree has it
abbrev pub kept_by : Snapshot → whole.Kept
kept_by x = record { number = x.number; names = (tree_of x.nodes).names; nodes = (tree_of x.nodes).nodes }

-- the snapshots as a tree has them
unfoldable pub snapshots_of : KeptSnapshots → Snapshots
snapshots_of kept = from_sorted (map (λ e. (e.0, kept_by e.1)) (entries kept))

-- whether a snapshot has this number
abbrev pub has_number : KeptSnapshots → ℕ → Bool
has_number kept n = list_any (λ e. e.1.number == n) (entries kept)

-- the least number from 1 to the limit that no node and no snapshot has
abbrev pub least_number : ℕ → KeptNodes → KeptSnapshots → Option ℕ
least_number limit nodes kept = find (λ n. is_none (get nodes n) && not (has_number kept n)) (range_with_len 1 limit)

-- what the first ones keep the second ones keep under the same names
abbrev pub AreAllIn : KeptSnapshots → KeptSnapshots → Type 0
AreAllIn one two = (name : List ℕ) (x : Snapshot) → get one name ≡ Some x → get two name ≡ Some x
