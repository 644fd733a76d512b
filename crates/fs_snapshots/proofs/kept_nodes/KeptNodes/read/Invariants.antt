use Rattle.std.proofs.Common.{◌≤◌}
use Rattle.std.specs.Prelude.{vec_capacity}
use Rattle.fs_snapshots.proofs.GoneThrough.{ReadsTable}
use Rattle.fs_snapshots.proofs.kept_nodes.KeptNodes.read.Given as goal

abbrev pub invariant-loop-slot : goal.invariant-loop-slot
invariant-loop-slot g l = ReadsTable g.S.Blocks.tells (g.S.Blocks.state l.fn.blocks) (g.S.Blocks.state l.blocks) l.places l.slot l.total l.before.items × (l.total ≤ l.room) × (l.count ≤ vec_capacity l.before)
