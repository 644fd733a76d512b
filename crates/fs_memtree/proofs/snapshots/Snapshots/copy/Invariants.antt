use Rattle.std.proofs.Common.{◌≡◌}
use Rattle.fs_memtree.proofs.keys.Snaps.{put_all}
use Rattle.fs_memtree.proofs.snapshots.Snapshots.copy.Given as goal

abbrev pub invariant-loop-name : goal.invariant-loop-name
invariant-loop-name l = put_all l.copy l.name-iterator ≡ l.self
