-- Lemmas on the numbers of a range that pass a test, on the blocks of nodes one behind the other, and on numbers of nodes in use, that crates above cite too. They add no meaning to the promises.
use Rattle.std.proofs.Common.{◌≡◌, ◌≢◌, ◌⊎◌, inl, inr, ℕ, zero, suc, ◌+◌, ◌<◌, ◌≤◌, ◌==◌, ◌||◌, ◌&&◌, nat_le, Bool, true, false, cond, List, ◌∷◌, ◌++◌, filter, Some, sym, ap, ◌∙◌, arith}
use Rattle.std.proofs.lemmas.Bool.{and_parts, cases_Bool, cases_eq, cases_order, eqb-true, eq-eqb, false≢true, leb-true, or_left, or_right, or_cases}
use Rattle.std.specs.List.{range_with_len}
use Rattle.base_types.specs.Seal.{Blocks}
use Rattle.layout_geometry.specs.Geometry.{Geometry}
use Rattle.layout_bytes.specs.declared.node.Node.{Node}
use Rattle.layout_bytes.specs.Node.{node_at}
use Rattle.engine_blocks.specs.Running.{has}
use Rattle.crash_stands.specs.Files.{used_node}
use Rattle.fs_files.specs.Places.{has_append, in_append, when_some}
use Rattle.fs_snapshots.specs.Known.{node_blocks}

-- The numbers of a range that pass a test.

pub kept_is : (p : ℕ → Bool) (a n b : ℕ) → has (filter p (range_with_len a n)) b ≡ true → (a ≤ b) × (b < a + n) × (p b ≡ true)
kept_is p a zero b e = absurd (false≢true e)
kept_is p a (suc n) b e = by (cases_Bool (p a)) (kept_is p (a + 1) n b)
  where
    rest : List ℕ
    rest = filter p (range_with_len (a + 1) n)

    wider : (a + 1 ≤ b) × (b < a + 1 + n) × (p b ≡ true) → (a ≤ b) × (b < a + suc n) × (p b ≡ true)
    wider r = (omega (arith, r.0), omega (arith, r.1), r.2)

    first : p a ≡ true → (has rest b ≡ true → (a + 1 ≤ b) × (b < a + 1 + n) × (p b ≡ true)) → ((b == a) ≡ true) ⊎ (has rest b ≡ true) → (a ≤ b) × (b < a + suc n) × (p b ≡ true)
    first passes further (inl same) = let is = eqb-true b a same in (omega (arith, is), omega (arith, is), ap p is ∙ passes)
    first passes further (inr later) = wider (further later)

    by : (p a ≡ true) ⊎ (p a ≡ false) → (has rest b ≡ true → (a + 1 ≤ b) × (b < a + 1 + n) × (p b ≡ true)) → (a ≤ b) × (b < a + suc n) × (p b ≡ true)
    by (inl passes) further = first passes further (or_cases (b == a) (has rest b) (sym (ap (λ t. has (cond t (a ∷ rest) rest) b) passes) ∙ e))
    by (inr fails) further = wider (further (sym (ap (λ t. has (cond t (a ∷ rest) rest) b) fails) ∙ e))

pub is_among : (p : ℕ → Bool) (a n b : ℕ) → a ≤ b → b < a + n → p b ≡ true → has (filter p (range_with_len a n)) b ≡ true
is_among p a zero b low high passes = absurd (omega (arith, low, high))
is_among p a (suc n) b low high passes = by (cases_order a b) (cases_Bool (p a)) (λ from. is_among p (a + 1) n b from (omega (arith, high)) passes)
  where
    rest : List ℕ
    rest = filter p (range_with_len (a + 1) n)

    by : (a ≡ b) ⊎ ((a < b) ⊎ (b < a)) → (p a ≡ true) ⊎ (p a ≡ false) → (a + 1 ≤ b → has rest b ≡ true) → has (cond (p a) (a ∷ rest) rest) b ≡ true
    by (inl same) keeps further = ap (λ t. has (cond t (a ∷ rest) rest) b) (ap p same ∙ passes) ∙ ap (λ t. t || has rest b) (eq-eqb b a (sym same))
    by (inr (inl later)) (inl keeps) further = ap (λ t. has (cond t (a ∷ rest) rest) b) keeps ∙ or_right (b == a) (has rest b) (further (omega (arith, later)))
    by (inr (inl later)) (inr drops) further = ap (λ t. has (cond t (a ∷ rest) rest) b) drops ∙ further (omega (arith, later))
    by (inr (inr before)) keeps further = absurd (omega (arith, low, before))

-- The blocks of nodes.

-- a block of one of the nodes is among their blocks
pub among_nodes : (places : ℕ → List ℕ) (n k b : ℕ) → 1 ≤ k → k ≤ n → has (places k) b ≡ true → has (node_blocks places n) b ≡ true
among_nodes places zero k b from upto is = absurd (omega (arith, from, upto))
among_nodes places (suc n) k b from upto is = by (cases_eq k (suc n)) (λ below. among_nodes places n k b from below is)
  where
    by : (k ≡ suc n) ⊎ (k ≢ suc n) → (k ≤ n → has (node_blocks places n) b ≡ true) → has (node_blocks places n ++ places (suc n)) b ≡ true
    by (inl last) further = has_append (node_blocks places n) (places (suc n)) b ∙ or_right (has (node_blocks places n) b) (has (places (suc n)) b) (ap (λ j. has (places j) b) (sym last) ∙ is)
    by (inr other) further = has_append (node_blocks places n) (places (suc n)) b ∙ or_left (has (node_blocks places n) b) (has (places (suc n)) b) (further (omega (arith, upto, other)))

-- and one of their blocks is a block of one of them
pub node_among : (places : ℕ → List ℕ) (n b : ℕ) → has (node_blocks places n) b ≡ true → (k : ℕ) × (has (places k) b ≡ true)
node_among places zero b is = absurd (false≢true is)
node_among places (suc n) b is = by (node_among places n b) (in_append (node_blocks places n) (places (suc n)) b is)
  where
    by : (has (node_blocks places n) b ≡ true → (k : ℕ) × (has (places k) b ≡ true)) → (has (node_blocks places n) b ≡ true) ⊎ (has (places (suc n)) b ≡ true) → (k : ℕ) × (has (places k) b ≡ true)
    by further (inl before) = further before
    by further (inr last) = (suc n, last)

-- The numbers of nodes.

-- a node in use has a number of the geometry's
pub used_number : (g : Geometry) (m : Blocks) (k : ℕ) (node : Node) → used_node g m k ≡ Some node → (1 ≤ k) × (k ≤ g.i)
used_number g m k node e =
    let is = and_parts (nat_le 1 k) (nat_le k g.i) (when_some (nat_le 1 k && nat_le k g.i) (node_at g m k) node e).0 in
    (leb-true 1 k is.0, leb-true k g.i is.1)
