use Rattle.std.proofs.Common.{◌≡◌, ◌==◌}
use Rattle.std.specs.List.{list_any}
use Rattle.fs_memtree.specs.Snapshots.{has_number}
use Rattle.fs_memtree.proofs.snapshots.Snapshots.has_number.Given as goal

abbrev pub invariant-loop-snapshot : goal.invariant-loop-snapshot
invariant-loop-snapshot l = list_any (λ e. e.1.number == l.number) l.snapshot-iterator ≡ has_number l.self l.number
