use Rattle.std.proofs.Common.{◌+◌}
use Rattle.base_types.specs.Layouts.{nodes_before}
use Rattle.fs_check.proofs.keeping.Firm.{SetsFirm}
use Rattle.fs_check.proofs.firm.set_firm.Given as goal

abbrev pub invariant-loop-t : goal.invariant-loop-t
invariant-loop-t g l = SetsFirm g.S.Blocks.tells l.geom (g.S.Blocks.state l.fn.blocks) (g.S.Blocks.state l.blocks) l.fn.firm l.firm (nodes_before l.geom.layout l.t + 1)
