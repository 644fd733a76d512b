-- What each command that nothing refuses makes of the nodes. Where a path leads nowhere nothing changes, which no such command meets.
use Rattle.std.specs.Prelude.{ℕ, ◌==◌, Bool, true, false, if◌then◌else◌, List, Option, None, Some}
use Rattle.std.specs.FinMap.{insert}
use Rattle.base_types.specs.Counts.{next_count}
use Rattle.fs_inodes.specs.Lookups.{number_at}
use Rattle.fs_memtree.specs.Kept.{Kept, KeptNodes, map_of, spot_at, changed_at, without_link, with_name, without_name, with_number, with_links}

abbrev pub made_at : KeptNodes → Option (ℕ × List ℕ) → Option ℕ → Kept → KeptNodes
made_at nodes (Some spot) (Some n) x = insert (changed_at nodes spot.0 (with_name spot.1 n)) n x
made_at nodes _ _ x = nodes

-- a new node at the path, under the least unused number
abbrev pub made : Option ℕ → KeptNodes → List (List ℕ) → Kept → KeptNodes
made least nodes path x = made_at nodes (spot_at (map_of nodes) path) least x

abbrev pub edited_by : KeptNodes → Option ℕ → (Kept → Kept) → KeptNodes
edited_by nodes None change = nodes
edited_by nodes (Some n) change = changed_at nodes n change

-- the node at the path changed so
abbrev pub edited : KeptNodes → List (List ℕ) → (Kept → Kept) → KeptNodes
edited nodes path change = edited_by nodes (number_at (map_of nodes) path) change

abbrev pub linked_at : KeptNodes → Option ℕ → Option (ℕ × List ℕ) → KeptNodes
linked_at nodes (Some n) (Some spot) = changed_at (changed_at nodes spot.0 (with_name spot.1 n)) n (with_links next_count)
linked_at nodes _ _ = nodes

-- the second path leads to the node at the first one too
abbrev pub linked : KeptNodes → List (List ℕ) → List (List ℕ) → KeptNodes
linked nodes path other = linked_at nodes (number_at (map_of nodes) path) (spot_at (map_of nodes) other)

abbrev pub removed_at : KeptNodes → Option (ℕ × List ℕ) → Option ℕ → KeptNodes
removed_at nodes (Some spot) (Some n) = changed_at (without_link nodes n) spot.0 (without_name spot.1)
removed_at nodes _ _ = nodes

-- the path is gone, and its node has one link less
abbrev pub removed : KeptNodes → List (List ℕ) → KeptNodes
removed nodes path = removed_at nodes (spot_at (map_of nodes) path) (number_at (map_of nodes) path)

-- a name of directory k comes to node n: a new one, or the one of an old node, which has one link less
abbrev pub put_over : KeptNodes → ℕ → List ℕ → ℕ → Option ℕ → KeptNodes
put_over nodes k name n None = changed_at nodes k (with_name name n)
put_over nodes k name n (Some old) = changed_at (without_link nodes old) k (with_number name n)

-- a name of one directory goes once another name, of that one or of another, came to its node
abbrev pub put_and_take : KeptNodes → ℕ × List ℕ → ℕ × List ℕ → ℕ → Option ℕ → KeptNodes
put_and_take nodes from to n old = changed_at (put_over nodes to.0 to.1 n old) from.0 (without_name from.1)

abbrev pub is_that : ℕ → Option ℕ → Bool
is_that n None = false
is_that n (Some old) = n == old

abbrev pub moved_at : KeptNodes → Option (ℕ × List ℕ) → Option (ℕ × List ℕ) → Option ℕ → Option ℕ → KeptNodes × Bool
moved_at nodes (Some from) (Some to) (Some n) old = if is_that n old then (nodes, false) else (put_and_take nodes from to n old, true)
moved_at nodes _ _ _ old = (nodes, false)

-- What is at the first path comes to the second one, and whether that changes anything: it doesn't where both lead to one node.
abbrev pub moved : KeptNodes → List (List ℕ) → List (List ℕ) → KeptNodes × Bool
moved nodes from to = moved_at nodes (spot_at (map_of nodes) from) (spot_at (map_of nodes) to) (number_at (map_of nodes) from) (number_at (map_of nodes) to)
