-- Kept nodes are in the blocks of the snapshot's node table.
use Rattle.std.proofs.Common.{◌≡◌, ℕ, ◌+◌, ◌-◌, ◌<◌, ◌≤◌, List, take, drop, get_or, slice_get, Some, ap, ◌∙◌, arith}
use Rattle.std.proofs.lemmas.Bool.Decides.{nat_tests}
use Rattle.std.proofs.lemmas.Option.{get_or_from_slice_get}
use Rattle.base_types.specs.Seal.{Blocks}
use Rattle.base_types.specs.Layouts.{node_size, nodes_in_block, nodes_before, node_block, rank_byte, node_byte}
use Rattle.base_types.specs.LayoutLaws.{block_of_rank, byte_of_rank}
use Rattle.layout_geometry.specs.Geometry.{Geometry, table_start}
use Rattle.layout_bytes.specs.Node.{node_of}
use Rattle.crash_stands.specs.Places.{dirs_from, kept_table}
use Rattle.crash_stands.specs.Kept.{kept_nodes}
use Rattle.fs_snapshots.specs.Tables.{nodes_in}
use Rattle.fs_snapshots.proofs.Counts.{dirs_add, dirs_same}

-- the block of the node table in which kept node k is
kept_block : (g : Geometry) (m : Blocks) (places : List ℕ) (i b : ℕ) → slice_get places (1 + i) ≡ Some b → kept_table m places g (table_start g + i) ≡ m b
kept_block g m places i b at =
    ap (λ n. m (get_or places (1 + n) 0)) {x = table_start g + i - table_start g} {y = i} (omega arith) ∙ ap m (get_or_from_slice_get places (1 + i) b 0 at)

-- a kept node is in its bytes there
pub kept_in : (g : Geometry) (m : Blocks) (places : List ℕ) (k b : ℕ) → 1 ≤ k → k ≤ g.i → slice_get places (1 + node_block g.layout k) ≡ Some b
    → kept_nodes g m places k ≡ node_of g (take (node_size g.layout) (drop (node_byte g.layout k) (m b)))
kept_in g m places k b from upto at = let there = kept_block g m places (node_block g.layout k) b at in grind (arith, nat_tests)

-- and is the one of its number in the block
pub kept_there : (g : Geometry) (m : Blocks) (places : List ℕ) (i r b : ℕ) → r < nodes_in_block g.layout → nodes_before g.layout i + r + 1 ≤ g.i → slice_get places (1 + i) ≡ Some b
    → kept_nodes g m places (nodes_before g.layout i + r + 1) ≡ nodes_in g (m b) (1 + r)
kept_there g m places i r b low within at =
    kept_in g m places (nodes_before g.layout i + r + 1) b (omega arith) within (ap (λ n. slice_get places (1 + n)) (block_of_rank g.layout i r low) ∙ at)
    ∙ ap (λ n. node_of g (take (node_size g.layout) (drop n (m b)))) (byte_of_rank g.layout i r low ∙ ap (rank_byte g.layout) {x = r} {y = 1 + r - 1} (omega arith))

-- so the directories among the first nodes of a block of the table have as many blocks as those in its bytes
pub dirs_there : (g : Geometry) (m : Blocks) (places : List ℕ) (i b n : ℕ) → n ≤ nodes_in_block g.layout → nodes_before g.layout i + n ≤ g.i → slice_get places (1 + i) ≡ Some b
    → dirs_from g.layout (kept_nodes g m places) 1 (nodes_before g.layout i + n) ≡ dirs_from g.layout (kept_nodes g m places) 1 (nodes_before g.layout i) + dirs_from g.layout (nodes_in g (m b)) 1 n
dirs_there g m places i b n few within at =
    dirs_add g.layout (kept_nodes g m places) 1 (nodes_before g.layout i) n
    ∙ ap (λ c. dirs_from g.layout (kept_nodes g m places) 1 (nodes_before g.layout i) + c) (dirs_same g.layout (kept_nodes g m places) (nodes_in g (m b)) (1 + nodes_before g.layout i) 1 n
    (λ r low. ap (kept_nodes g m places) {x = 1 + nodes_before g.layout i + r} {y = nodes_before g.layout i + r + 1} (omega arith) ∙ kept_there g m places i r b (omega (arith, low, few)) (omega (arith, low, within)) at))
