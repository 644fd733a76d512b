use Rattle.std.proofs.Common.{◌≡◌, Some, sym, subst, List, ℕ}
use Rattle.std.specs.List.{AllByRecursion}
use Rattle.std.specs.FinMap.{get}
use Rattle.fs_memtree.specs.declared.snapshots.Snapshot.{Snapshot}
use Rattle.fs_memtree.proofs.keys.Snaps.{each_there, all_there}
use Rattle.fs_memtree.proofs.snapshots.Snapshots.are_all_in.Goals as goal

pub loop-name-init : goal.loop-name-init
loop-name-init c =
    let started = c.into_iter-name-iterator.ensures.into_iter_gives in
    let es = c.self.inside.entries.entries in (
      subst (AllByRecursion (λ (e : List ℕ × Snapshot). get c.args.self.now e.0 ≡ Some e.1)) (sym started.0) (each_there es c.args.self.now started.5 c.self.view_is),
      λ all. all_there es c.args.self.now started.5 c.self.view_is (λ e. get c.args.other.now e.0 ≡ Some e.1)
          (subst (AllByRecursion (λ (e : List ℕ × Snapshot). get c.args.other.now e.0 ≡ Some e.1)) started.0 all),
    )
