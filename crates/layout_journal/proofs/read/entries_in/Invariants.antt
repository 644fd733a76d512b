use Rattle.std.proofs.Common.{◌≡◌, length}
use Rattle.layout_journal.specs.Layout.{entries_in}
use Rattle.layout_journal.proofs.ReadEntries.{so_far}
use Rattle.layout_journal.proofs.read.entries_in.Given as goal

abbrev pub invariant-loop-k : goal.invariant-loop-k
invariant-loop-k l = (length l.entries ≡ l.k) × (entries_in l.geom l.count l.bytes ≡ so_far l.geom l.count l.bytes l.k l.entries)
