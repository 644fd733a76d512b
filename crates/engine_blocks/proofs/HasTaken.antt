-- A map of blocks in memory while blocks of a list are taken.
use Rattle.std.specs.Prelude.{◌≡◌, ℕ, true, List}
use Rattle.base_types.specs.Seal.{blocks_of}
use Rattle.engine_blocks.specs.declared.plain.PlainBlocks.{PlainBlocks}
use Rattle.engine_blocks.specs.State.{after_take}
use Rattle.engine_blocks.specs.Plain.{IsWithBits}
use Rattle.engine_blocks.specs.PlainOf.{books_of}

-- these were taken since
pub record HasTaken (start now : PlainBlocks) (bs : List ℕ) : Type 0 where
  pub books : books_of now ≡ after_take (books_of start) bs
  pub map : IsWithBits start.geom (blocks_of start.history.now) (blocks_of now.history.now) bs true
  pub points : now.history.points ≡ start.history.points
  pub ticks : now.ticks ≡ start.ticks
