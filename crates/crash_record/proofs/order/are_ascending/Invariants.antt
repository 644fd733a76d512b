use Rattle.std.proofs.Common.{◌≡◌, ◌≤◌, length, drop}
use Rattle.layout_journal.specs.Run.{are_ascending}
use Rattle.crash_record.proofs.order.are_ascending.Given as goal

-- the entries from here on decide
abbrev pub invariant-loop-entry : goal.invariant-loop-entry
invariant-loop-entry l = (l.entry-index ≤ length l.entries) × (are_ascending l.low l.high (drop l.entry-index l.entries) ≡ are_ascending l.fn.from l.high l.entries)
