use Rattle.std.proofs.Common.{◌≡◌, map, take}
use Rattle.engine_running.specs.Record.{block_of}
use Rattle.engine_running.proofs.commit.numbers_of.Given as goal

abbrev pub invariant-loop-put : goal.invariant-loop-put
invariant-loop-put l = record { items : l.numbers.items ≡ map block_of (take l.put-index l.puts) }
