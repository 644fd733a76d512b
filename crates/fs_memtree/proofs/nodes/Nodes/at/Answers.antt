use Rattle.std.proofs.Common.{◌∙◌, ap, sym}
use Rattle.std.specs.FinMap.{get}
use Rattle.fs_memtree.specs.Stored.{things, thing_in}
use Rattle.fs_memtree.proofs.rows.Row.{get_row}
use Rattle.fs_memtree.proofs.nodes.Nodes.at.Goals as goal

pub returns : goal.returns
returns c = c.node_at.ensures ∙ ap (λ row. thing_in (things row) c.args.number) c.as_slice.ensures.value
    ∙ sym (get_row (things c.self.inside.row.items) c.args.number) ∙ ap (λ m. get m c.args.number) c.self.view_is
