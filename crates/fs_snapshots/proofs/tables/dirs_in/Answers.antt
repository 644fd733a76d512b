use Rattle.std.proofs.Common.{ap, ◌∙◌, arith}
use Rattle.base_types.specs.Layouts.{node_size, rank_byte}
use Rattle.fs_snapshots.proofs.Counts.{next_there}
use Rattle.fs_snapshots.proofs.tables.dirs_in.Goals as goal

pub loop-i-preserved : goal.loop-i-preserved
loop-i-preserved c = (
  next_there c.args.geom.now c.args.table.now c.loop-i.i c.rank_byte-at.result c.node_length.result c.loop-i.total c.dir_blocks-total.result (c.rank_byte-at.ensures ∙ ap (λ l. rank_byte l c.loop-i.i) c.layout-layout.ensures) (c.node_length.ensures ∙ ap node_size c.layout-layout.ensures) c.dir_blocks-total.ensures.value c.loop-i.invariant.0,
  omega (arith, c.loop-i.invariant.1, c.dir_blocks-total.ensures.most),
)
