use Rattle.fs_memtree.proofs.rows.Row.{stands}
use Rattle.fs_memtree.proofs.nodes.stands_at.Goals as goal

pub returns : goal.returns
returns c = let h = c.in_ok-get.ensures.lookup in stands c.args.row.now c.args.index c.as_ref.result c.in_ok-get.field-0.now c.as_ref.ensures.value h.3.0 h.1
