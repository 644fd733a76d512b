use Rattle.std.proofs.Common.{◌≡◌, ◌≤◌, length, drop}
use Rattle.layout_journal.specs.Run.{names_block}
use Rattle.crash_record.proofs.order.names_block.Given as goal

-- the entries from here on decide
abbrev pub invariant-loop-entry : goal.invariant-loop-entry
invariant-loop-entry l = (l.entry-index ≤ length l.entries) × (names_block (drop l.entry-index l.entries) l.block ≡ names_block l.entries l.block)
