-- What a batch is made of: which newest payloads its records have, and the checkpoint writes that bring these to their blocks. It is described in docs/PIPELINE.md.
use Rattle.std.specs.Prelude.{◌≡◌, ℕ, ◌+◌, ◌||◌, Bool, false, List, [], ◌∷◌, slice_get, Some, None, is_some}
use Rattle.crash_argument.specs.HomeTest.{is_one_of}
use Rattle.engine_running.specs.declared.put.Put.{Put}
use Rattle.engine_running.specs.Rows.{IsRising, put_of}
use Rattle.engine_running.specs.Running.{IsRisingNumbers}
use Rattle.engine_running.specs.declared.states.Sure.{Sure}
use Rattle.engine_running.specs.declared.states.Placed.{Placed}
use Rattle.engine_checkpoint.specs.declared.pipeline.HomeWrite.{HomeWrite}
use Rattle.engine_checkpoint.specs.declared.newest.Newest.{Newest}
use Rattle.engine_checkpoint.specs.Newest.{spot_of, has_block}
use Rattle.engine_checkpoint.specs.Index.{newest_spot}
use Rattle.engine_checkpoint.specs.Kept.{Kept, newest_in}

-- the placed state of a sure record
abbrev pub placed_of : Sure → Placed
placed_of s = record { number = s.number; place = s.place; count = s.count }

-- one of these records has a payload for the block
abbrev pub have_payload : ℕ → List Kept → Bool
have_payload b [] = false
have_payload b (k ∷ ks) = has_block b k.payloads || have_payload b ks

-- the checkpoint writes of these records: each block that has a newest payload among them, with its bytes, ascending
pub record IsHomeRow (ks : List Kept) (row : List Put) : Type 0 where
  pub rising : IsRising row
  pub each : (b : ℕ) → put_of b row ≡ newest_in None ks b

-- these are the blocks that have a newest payload among these records, ascending
pub record AreHomeBlocks (ks : List Kept) (bs : List ℕ) : Type 0 where
  pub rising : IsRisingNumbers bs
  pub each : (b : ℕ) → is_one_of b bs ≡ is_some (newest_in None ks b)

abbrev pub home_block : HomeWrite → ℕ
home_block h = h.block

-- the records are numbered in a row
abbrev pub AreInRow : List Sure → Type 0
AreInRow ss = (k : ℕ) (first s : Sure) → slice_get ss 0 ≡ Some first → slice_get ss k ≡ Some s → s.number ≡ first.number + k

-- the newest payloads of these records are at these spots
abbrev pub AreAt : List Kept → Newest → Type 0
AreAt ks n = (b : ℕ) → spot_of n b ≡ newest_spot None ks b
