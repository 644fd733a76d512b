use Rattle.std.proofs.Common.{◌≡◌, ◌+◌, IsTrue}
use Rattle.base_types.specs.Layouts.{nodes_before}
use Rattle.layout_geometry.specs.Geometry.{table_start}
use Rattle.crash_stands.specs.Places.{kept_table}
use Rattle.fs_check.proofs.keeping.Going.{KeepsOn}
use Rattle.fs_check.proofs.kept_table.check_kept_nodes.Given as goal

abbrev pub invariant-loop-place : goal.invariant-loop-place
invariant-loop-place g l =
    KeepsOn (IsTrue g.S.Blocks.tells × (l.table ≡ kept_table (g.S.Blocks.state l.fn.blocks).map l.snapshot.places l.geom (table_start l.geom + l.t))) g.S.Blocks.tells l.geom (g.S.Blocks.state l.fn.blocks) (g.S.Blocks.state l.blocks)
    l.maps l.fn.tally l.tally l.snapshot (nodes_before l.geom.layout l.t + 1) (nodes_before l.geom.layout l.t + l.place + 1)
