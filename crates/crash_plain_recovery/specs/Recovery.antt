-- What recovery finds in an image.
use Rattle.std.specs.Prelude.{◌≡◌, ℕ, ◌<◌, List, length}
use Rattle.base_types.specs.Seal.{Blocks, blocks_of}
use Rattle.layout_journal.specs.declared.header.Header.{Header}
use Rattle.layout_journal.specs.Run.{Newest, Record, IsRun, replayed, live_part, HeldIs}

-- the newest header and its slot, the recoverable run, and all blocks once it is replayed
pub record Recovery : Type 0 where
  pub slot : ℕ
  pub header : Header
  pub run : List Record
  pub blocks : List (List ℕ)

-- each part of it is what the definitions say of an image of n blocks
pub record IsRecovery (n : ℕ) (img : Blocks) (r : Recovery) : Type 0 where
  pub newest : Newest n img r.slot r.header
  pub is_run : IsRun img r.header r.run
  pub count : length r.blocks ≡ n
  pub each : (b : ℕ) → b < n → blocks_of r.blocks b ≡ replayed r.header.geom img r.run b
  pub held : HeldIs n img (live_part r.header.geom (blocks_of r.blocks))
