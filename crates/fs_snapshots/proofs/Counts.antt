-- How many blocks directories have.
use Rattle.std.proofs.Common.{◌≡◌, ℕ, zero, suc, ◌+◌, ◌-◌, ◌<◌, ◌≤◌, List, take, drop, refl, sym, ap, ap₂, ◌∙◌, arith}
use Rattle.base_types.specs.declared.layout.Layout.{Layout}
use Rattle.base_types.specs.Layouts.{node_size, rank_byte}
use Rattle.layout_geometry.specs.Geometry.{Geometry}
use Rattle.layout_bytes.specs.Node.{node_of}
use Rattle.crash_stands.specs.Places.{NodesInUse, dir_blocks, dirs_from}
use Rattle.fs_snapshots.specs.Tables.{nodes_in}

-- those of some numbers, and of some more behind them
pub dirs_add : (y : Layout) (nodes : NodesInUse) (k a b : ℕ) → dirs_from y nodes k (a + b) ≡ dirs_from y nodes k a + dirs_from y nodes (k + a) b
dirs_add y nodes k zero b =
    ap (dirs_from y nodes k) {x = zero + b} {y = b} (omega arith)
    ∙ ap (λ l. dirs_from y nodes l b) {x = k} {y = k + zero} (omega arith)
    ∙ omega arith
dirs_add y nodes k (suc a) b =
    ap (dirs_from y nodes k) {x = suc a + b} {y = suc (a + b)} (omega arith)
    ∙ ap (λ n. dir_blocks y (nodes k) + n) (dirs_add y nodes (k + 1) a b ∙ ap (λ l. dirs_from y nodes (k + 1) a + dirs_from y nodes l b) {x = k + 1 + a} {y = k + suc a} (omega arith))
    ∙ omega arith

-- one number more
pub dirs_next : (y : Layout) (nodes : NodesInUse) (k n : ℕ) → dirs_from y nodes k (n + 1) ≡ dirs_from y nodes k n + dir_blocks y (nodes (k + n))
dirs_next y nodes k n = dirs_add y nodes k n 1 ∙ ap (λ m. dirs_from y nodes k n + m) {x = dir_blocks y (nodes (k + n)) + 0} {y = dir_blocks y (nodes (k + n))} (omega arith)

-- the same in the bytes of a block: the next node's are counted
pub next_there : (g : Geometry) (table : List ℕ) (i at size total more : ℕ) → at ≡ rank_byte g.layout i → size ≡ node_size g.layout → more ≡ dir_blocks g.layout (node_of g (take (at + size - at) (drop at table)))
    → total ≡ dirs_from g.layout (nodes_in g table) 1 i → total + more ≡ dirs_from g.layout (nodes_in g table) 1 (i + 1)
next_there g table i at size total more place bytes counts before =
    let count : at + size - at ≡ node_size g.layout = omega (arith, bytes) in
    let begin : at ≡ rank_byte g.layout (1 + i - 1) = place ∙ ap (rank_byte g.layout) {x = i} {y = 1 + i - 1} (omega arith) in
    ap₂ (λ (a b : ℕ). a + b) before (counts ∙ ap (λ n. dir_blocks g.layout (node_of g (take n (drop at table)))) count ∙ ap (λ n. dir_blocks g.layout (node_of g (take (node_size g.layout) (drop n table)))) begin)
    ∙ sym (dirs_next g.layout (nodes_in g table) 1 i)

-- fewer numbers have no more
pub dirs_less : (y : Layout) (nodes : NodesInUse) (k a b : ℕ) → a ≤ b → dirs_from y nodes k a ≤ dirs_from y nodes k b
dirs_less y nodes k a b low =
    let split : dirs_from y nodes k b ≡ dirs_from y nodes k a + dirs_from y nodes (k + a) (b - a) = ap (dirs_from y nodes k) {x = b} {y = a + (b - a)} (omega (arith, low)) ∙ dirs_add y nodes k a (b - a) in
    omega (arith, split)

-- the same nodes have as many
pub dirs_same : (y : Layout) (nodes others : NodesInUse) (k l n : ℕ) → ((j : ℕ) → j < n → nodes (k + j) ≡ others (l + j)) → dirs_from y nodes k n ≡ dirs_from y others l n
dirs_same y nodes others k l zero same = refl
dirs_same y nodes others k l (suc n) same =
    let first : nodes k ≡ others l = ap nodes {x = k} {y = k + 0} (omega arith) ∙ same 0 (omega arith) ∙ ap others {x = l + 0} {y = l} (omega arith) in
    let rest = dirs_same y nodes others (k + 1) (l + 1) n (λ j low. ap nodes {x = k + 1 + j} {y = k + suc j} (omega arith) ∙ same (suc j) (omega (arith, low)) ∙ ap others {x = l + suc j} {y = l + 1 + j} (omega arith)) in
    ap₂ (λ (a b : ℕ). a + b) (ap (dir_blocks y) first) rest
