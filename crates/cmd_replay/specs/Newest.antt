-- The newest of some sync points that has a property. It is described in docs/REPLAY.md.
use Rattle.std.specs.Prelude.{◌≡◌, ℕ, ◌<◌, ◌≤◌, List, slice_get, Option, Some, None}
use Rattle.lang_tree.specs.Tree.{Tree}
use Rattle.lang_tree.specs.Points.{Point}

-- the point of this number has a tree that is so
pub record IsSuch (P : Tree → Type 0) (points : List Point) (number : ℕ) : Type 0 where
  pub point : Point
  pub is : slice_get points number ≡ Some point
  pub such : P point.tree

-- the greatest number from low to high whose point has a tree that is so, or none where no point there has one
abbrev pub IsNewest : (Tree → Type 0) → List Point → ℕ → ℕ → Option ℕ → Type 0
IsNewest P points low high None = (p : ℕ) → low ≤ p → p ≤ high → IsSuch P points p → ⊥
IsNewest P points low high (Some p) = (low ≤ p) × (p ≤ high) × IsSuch P points p × ((q : ℕ) → p < q → q ≤ high → IsSuch P points q → ⊥)
