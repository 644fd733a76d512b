use Rattle.std.proofs.Common.{◌≡◌, ◌+◌, IsTrue}
use Rattle.base_types.specs.Layouts.{nodes_before}
use Rattle.layout_geometry.specs.Geometry.{table_start}
use Rattle.fs_check.proofs.sound.Steps.{Goes}
use Rattle.fs_check.proofs.table.check_nodes.Given as goal

abbrev pub invariant-loop-place : goal.invariant-loop-place
invariant-loop-place g l =
    Goes (IsTrue g.S.Blocks.tells × (l.table ≡ (g.S.Blocks.state l.fn.blocks).map (table_start l.geom + l.t))) g.S.Blocks.tells l.geom (g.S.Blocks.state l.fn.blocks) (g.S.Blocks.state l.blocks) l.bits l.fn.met l.met l.fn.found l.found (nodes_before l.geom.layout l.t + 1) (nodes_before l.geom.layout l.t + l.place + 1)
