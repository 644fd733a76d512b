-- What stands for each block, by the records that aren't placed and by the disk, and that the pipeline's calls leave it as it is. It is described in docs/PIPELINE.md.
use Rattle.std.specs.Prelude.{◌≡◌, ℕ, false, IsTrue, List, ◌++◌, Some, None, Contains}
use Rattle.base_types.specs.Seal.{Blocks}
use Rattle.disk_contract.specs.declared.event.Event.{Event}
use Rattle.disk_contract.specs.declared.event.Event.TheVariants.{Wrote}
use Rattle.disk_contract.specs.Cell.{accepted, is_lost}
use Rattle.disk_contract.specs.Disk.{State}
use Rattle.layout_journal.specs.Run.{otherwise, is_live}
use Rattle.crash_argument.specs.Ledger.{Ledger, next_number}
use Rattle.engine_checkpoint.specs.declared.pipeline.Pipeline.{Pipeline}
use Rattle.engine_checkpoint.specs.Kept.{kept, newest_in}

-- what stands for each block now: the newest payload of the records that aren't placed, or else what the disk accepted last
abbrev pub bytes_now : Pipeline → Blocks → List Event → Blocks
bytes_now v base log b = otherwise (newest_in None (kept v) b) (accepted base log b)

-- the records that aren't placed have a newest payload for the block
abbrev pub HasNewest : Pipeline → ℕ → Type 0
HasNewest v b = (x : List ℕ) × (newest_in None (kept v) b ≡ Some x)

-- the block is live in the map after all records
abbrev pub IsLiveNow : Ledger → ℕ → Type 0
IsLiveNow l b = IsTrue (is_live l.geom (l.map_before (next_number l)) b)

-- A call has left the bytes of the blocks that were live as it began. Each of them that it wrote had a newest payload then. And none of them that has no newest payload now was touched by a write that was lost, so that a read of the disk gives its bytes.
pub record LeavesBytes (l : Ledger) (v w : Pipeline) (old new : State) : Type 0 where
  pub more : List Event
  pub log : new.log ≡ old.log ++ more
  pub bytes : (b : ℕ) → IsLiveNow l b → bytes_now w new.base new.log b ≡ bytes_now v old.base old.log b
  pub wrote : (ticket b : ℕ) (x : List ℕ) → Contains more (Wrote ticket b x) → IsLiveNow l b → HasNewest v b
  pub calm : (b : ℕ) → IsLiveNow l b → newest_in None (kept w) b ≡ None → is_lost b new.log ≡ false
