use Rattle.std.proofs.Common.{◌≡◌, ◌≤◌, ◌*◌}
use Rattle.crash_stands.specs.Places.{dirs_from}
use Rattle.fs_snapshots.specs.Tables.{nodes_in}
use Rattle.fs_snapshots.proofs.tables.dirs_in.Given as goal

abbrev pub invariant-loop-i : goal.invariant-loop-i
invariant-loop-i l = (l.total ≡ dirs_from l.geom.layout (nodes_in l.geom l.table) 1 l.i) × (l.total ≤ l.i * 62914560)
