-- What an image is, as a list of blocks.
use Rattle.std.specs.Prelude.{ℕ, ◌<◌, ◌^◌, List, length}
use Rattle.base_types.specs.Seal.{blocks_of}
use Rattle.disk_contract.specs.Lawful.{IsBlock}

-- fewer than 2^32 blocks, each with the bytes of a block
pub record AreBlocks (blocks : List (List ℕ)) : Type 0 where
  pub short : length blocks < 2 ^ 32
  pub whole : (b : ℕ) → b < length blocks → IsBlock (blocks_of blocks b)
