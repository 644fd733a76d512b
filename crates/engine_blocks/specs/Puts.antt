-- Several frees, one behind the other, and which blocks are data.
use Rattle.std.specs.Prelude.{ℕ, ◌<◌, ◌≤◌, List, [], ◌∷◌}
use Rattle.layout_geometry.specs.Geometry.{Geometry, data_start}
use Rattle.engine_blocks.specs.State.{Bookkeeping, after_free}

-- the bookkeeping after each of these was freed
abbrev pub after_frees : Bookkeeping → List ℕ → Bookkeeping
after_frees k [] = k
after_frees k (b ∷ bs) = after_frees (after_free k b) bs

-- a data block
pub record IsData (g : Geometry) (b : ℕ) : Type 0 where
  pub from : data_start g ≤ b
  pub below : b < g.n
