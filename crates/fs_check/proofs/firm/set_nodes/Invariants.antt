use Rattle.std.proofs.Common.{◌+◌}
use Rattle.base_types.specs.Layouts.{nodes_before}
use Rattle.fs_check.proofs.keeping.Firm.{SetsNodes}
use Rattle.fs_check.proofs.firm.set_nodes.Given as goal

abbrev pub invariant-loop-place : goal.invariant-loop-place
invariant-loop-place l = SetsNodes l.geom l.t l.table l.fn.firm l.firm (nodes_before l.geom.layout l.t + l.place + 1)
