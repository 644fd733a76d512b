-- The blocks of which a snapshot has copies.
use Rattle.std.specs.Prelude.{ℕ, zero, suc, ◌+◌, if◌then◌else◌, List, [], ◌++◌, Option, None, Some}
use Rattle.base_types.specs.Runs.{run_places}
use Rattle.layout_bytes.specs.declared.node.Node.{Node}
use Rattle.crash_stands.specs.Places.{NodesInUse, is_copied}

-- the blocks of a directory
abbrev pub places_of_dir : Option Node → List ℕ
places_of_dir None = []
places_of_dir (Some node) = if is_copied node.kind then run_places node.runs else []

-- the blocks of the directories among n numbers from k on, in order
abbrev pub all_dirs : NodesInUse → ℕ → ℕ → List ℕ
all_dirs nodes k zero = []
all_dirs nodes k (suc n) = places_of_dir (nodes k) ++ all_dirs nodes (k + 1) n
