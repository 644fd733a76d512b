use Rattle.std.proofs.Common.{◌≡◌, ◌++◌, map}
use Rattle.std.specs.FinMap.{keys}
use Rattle.fs_memtree.proofs.snapshots.Snapshots.names.Given as goal

abbrev pub invariant-loop-name : goal.invariant-loop-name
invariant-loop-name l = l.names.items ++ map (λ e. e.0) l.name-iterator ≡ keys l.self
