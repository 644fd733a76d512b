use Rattle.std.proofs.Common.{◌∙◌, ap, arith}
use Rattle.fs_memtree.specs.Stored.{things, thing_in}
use Rattle.fs_memtree.proofs.nodes.node_at.Goals as goal

pub returns : goal.returns
returns c = c.stands_at.ensures ∙ ap (thing_in (things c.args.row.now)) (omega (arith, c.in_ok-index.ensures.0, c.in_ok-index.ensures.1))
