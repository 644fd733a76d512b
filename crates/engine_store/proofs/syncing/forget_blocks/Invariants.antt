use Rattle.std.proofs.Common.{◌≡◌, ℕ, take, if◌then◌else◌, None}
use Rattle.std.specs.FinMap.{get}
use Rattle.crash_argument.specs.HomeTest.{is_one_of}
use Rattle.engine_store.proofs.syncing.forget_blocks.Given as goal

abbrev pub invariant-loop-block : goal.invariant-loop-block
invariant-loop-block l = (b : ℕ) → get l.cache.kept b ≡ (if is_one_of b (take l.block-index l.blocks) then None else get l.fn.cache.kept b)
