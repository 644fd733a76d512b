use Rattle.std.proofs.Common.{◌≡◌, ◌-◌, take, drop}
use Rattle.layout_journal.specs.Run.{entries}
use Rattle.engine_running.specs.Record.{record_of}
use Rattle.engine_running.proofs.entries.descriptor_at.Given as goal

abbrev pub invariant-loop-at : goal.invariant-loop-at
invariant-loop-at l = record {
  entries : l.entries ≡ take (l.at - l.from) (drop l.from (entries (record_of 0 0 l.paid l.laid)));
}
