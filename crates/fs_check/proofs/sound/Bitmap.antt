-- Reading the bitmap, block by block.
use Rattle.std.proofs.Common.{◌≡◌, ℕ, ◌+◌, ◌<◌, Bool, false, IsTrue, List}
use Rattle.base_types.specs.Seal.{blocks_of}
use Rattle.engine_blocks.specs.State.{State}
use Rattle.layout_geometry.specs.Geometry.{Geometry, bitmap_start}
use Rattle.fs_files.specs.Effects.{LooksOnly}

-- the first k blocks of the bitmap were read
pub record ReadsTo (tells : Bool) (g : Geometry) (s t : State) (into : List (List ℕ)) (k : ℕ) : Type 0 where
  pub looks : LooksOnly tells false s t
  pub bits : IsTrue tells → (j : ℕ) → j < k → blocks_of into j ≡ s.map (bitmap_start g + j)
