use Rattle.std.proofs.Common.{◌≡◌, ℕ, is_some, take, if◌then◌else◌, None}
use Rattle.std.specs.FinMap.{get}
use Rattle.engine_running.specs.Rows.{put_of}
use Rattle.engine_store.proofs.syncing.forget_puts.Given as goal

abbrev pub invariant-loop-put : goal.invariant-loop-put
invariant-loop-put l = (b : ℕ) → get l.cache.kept b ≡ (if is_some (put_of b (take l.put-index l.puts)) then None else get l.fn.cache.kept b)
