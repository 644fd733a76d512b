use Rattle.std.proofs.Common.{◌+◌, IsTrue}
use Rattle.base_types.specs.Layouts.{nodes_before}
use Rattle.fs_check.proofs.keeping.Going.{KeepsOn}
use Rattle.fs_check.proofs.kept_table.check_kept_table.Given as goal

abbrev pub invariant-loop-t : goal.invariant-loop-t
invariant-loop-t g l = KeepsOn (IsTrue g.S.Blocks.tells) g.S.Blocks.tells l.geom (g.S.Blocks.state l.fn.blocks) (g.S.Blocks.state l.blocks) l.maps l.fn.tally l.tally l.snapshot 1 (nodes_before l.geom.layout l.t + 1)
