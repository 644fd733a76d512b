use Rattle.std.proofs.Common.{◌+◌, IsTrue}
use Rattle.base_types.specs.Layouts.{nodes_before}
use Rattle.fs_check.proofs.keeping.Finding.{FindsOn}
use Rattle.fs_check.proofs.snapshots.check_snapshots.Given as goal

abbrev pub invariant-loop-t : goal.invariant-loop-t
invariant-loop-t g l = FindsOn (IsTrue g.S.Blocks.tells) g.S.Blocks.tells l.geom (g.S.Blocks.state l.fn.blocks) (g.S.Blocks.state l.blocks) l.maps l.fn.found l.found 1 (nodes_before l.geom.layout l.t + 1)
