use Rattle.std.proofs.Common.{arith}
use Rattle.fs_memtree.proofs.rows.Row.{copied_more}
use Rattle.fs_memtree.proofs.nodes.copied_row.Goals as goal

pub loop-place-preserved : goal.loop-place-preserved
loop-place-preserved c = (
  omega arith,
  copied_more c.args.row.now c.loop-place.copy.items c.push.new.self.items c.loop-place.place-index c.in_ok-copied.field-0 c.place-item.result
      c.loop-place-test.true c.place-item.is c.in_ok-copied.ensures c.in_ok-push.ensures.items c.loop-place.invariant.1,
)
