-- A leaf that is changed, with the counts above it, from the leaf up to the root.
use Rattle.std.proofs.Common.{◌≡◌, ◌≢◌, ℕ, ◌+◌, ◌*◌, ◌<◌, ◌≤◌, List, length}
use Rattle.std.specs.Prelude.{slice_index}

-- all places but this one have their sums, and this one lacks at most the mark
pub record IsChanging (old new : List ℕ) (size leaf mark place : ℕ) : Type 0 where
  pub twice : length new ≡ 2 * size
  pub below : place < size
  pub sums : (p : ℕ) → 0 < p → p < size → p ≢ place → slice_index new p ≡ slice_index new (2 * p) + slice_index new (2 * p + 1)
  pub next : 0 < place → slice_index new (2 * place) + slice_index new (2 * place + 1) ≤ slice_index old place + mark
  pub marked : slice_index new (size + leaf) ≡ mark
  pub others : (n : ℕ) → n ≢ leaf → slice_index new (size + n) ≡ slice_index old (size + n)
  pub kept : (p : ℕ) → p < 2 * place → slice_index new p ≡ slice_index old p
  pub close : (p : ℕ) → slice_index new p ≤ slice_index old p + mark
