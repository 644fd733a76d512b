use Rattle.std.proofs.Common.{◌≡◌, Some}
use Rattle.std.specs.List.{AllByRecursion}
use Rattle.std.specs.FinMap.{get}
use Rattle.fs_memtree.specs.Snapshots.{AreAllIn}
use Rattle.fs_memtree.proofs.snapshots.Snapshots.are_all_in.Given as goal

abbrev pub invariant-loop-name : goal.invariant-loop-name
invariant-loop-name l =
    AllByRecursion (λ e. get l.self e.0 ≡ Some e.1) l.name-iterator ×
    (AllByRecursion (λ e. get l.other e.0 ≡ Some e.1) l.name-iterator → AreAllIn l.self l.other)
