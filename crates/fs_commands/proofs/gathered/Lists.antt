-- The blocks of some nodes, and of some more behind them.
use Rattle.std.proofs.Common.{◌≡◌, ℕ, zero, suc, ◌+◌, ◌<◌, ◌≤◌, List, [], ◌++◌, append-nil, append_assoc, refl, sym, ap, ap₂, ◌∙◌, arith}
use Rattle.crash_stands.specs.Places.{NodesInUse}
use Rattle.crash_snapshots.specs.Places.{all_dirs, places_of_dir}
use Rattle.fs_snapshots.specs.Known.{node_blocks}

pub blocks_add : (p : ℕ → List ℕ) (a b : ℕ) → node_blocks p (a + b) ≡ node_blocks p a ++ node_blocks (λ r. p (a + r)) b
blocks_add p a zero = ap (node_blocks p) {x = a + zero} {y = a} (omega arith) ∙ sym (append-nil (node_blocks p a))
blocks_add p a (suc b) =
    ap (node_blocks p) {x = a + suc b} {y = suc (a + b)} (omega arith)
    ∙ ap₂ (λ xs ys. xs ++ ys) (blocks_add p a b) (ap p {x = suc (a + b)} {y = a + suc b} (omega arith))
    ∙ append_assoc (node_blocks p a) (node_blocks (λ r. p (a + r)) b) (p (a + suc b))

-- the same blocks of each node
pub blocks_same : (p q : ℕ → List ℕ) (n : ℕ) → ((r : ℕ) → 1 ≤ r → r ≤ n → p r ≡ q r) → node_blocks p n ≡ node_blocks q n
blocks_same p q zero same = refl
blocks_same p q (suc n) same = ap₂ (λ xs ys. xs ++ ys) (blocks_same p q n (λ r low high. same r low (omega (arith, high)))) (same (suc n) (omega arith) (omega arith))

-- directories' blocks are gathered likewise
dirs_from_one : (nodes : NodesInUse) (a n : ℕ) → all_dirs nodes (a + 1) n ≡ node_blocks (λ r. places_of_dir (nodes (a + r))) n
dirs_from_one nodes a zero = refl
dirs_from_one nodes a (suc n) =
    ap (λ xs. places_of_dir (nodes (a + 1)) ++ xs) (dirs_from_one nodes (a + 1) n)
    ∙ ap (λ xs. places_of_dir (nodes (a + 1)) ++ xs) (blocks_same (λ r. places_of_dir (nodes (a + 1 + r))) (λ r. places_of_dir (nodes (a + (1 + r)))) n (λ r low high. ap (λ k. places_of_dir (nodes k)) {x = a + 1 + r} {y = a + (1 + r)} (omega arith)))
    ∙ sym (ap (node_blocks (λ r. places_of_dir (nodes (a + r)))) {x = suc n} {y = 1 + n} (omega arith) ∙ blocks_add (λ r. places_of_dir (nodes (a + r))) 1 n)

pub dirs_are : (nodes : NodesInUse) (n : ℕ) → all_dirs nodes 1 n ≡ node_blocks (λ k. places_of_dir (nodes k)) n
dirs_are nodes n =
    ap (λ k. all_dirs nodes k n) {x = 1} {y = 0 + 1} (omega arith) ∙ dirs_from_one nodes 0 n
    ∙ blocks_same (λ r. places_of_dir (nodes (0 + r))) (λ k. places_of_dir (nodes k)) n (λ r low high. ap (λ k. places_of_dir (nodes k)) {x = 0 + r} {y = r} (omega arith))
