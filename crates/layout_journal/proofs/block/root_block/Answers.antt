use Rattle.std.proofs.Common.{◌∙◌, ◌-◌, ◌++◌, replicate, ap, ap₂}
use Rattle.std.proofs.lemmas.List.{drop-replicate}
use Rattle.layout_bytes.specs.declared.node.NodeKind.TheVariants.{Dir}
use Rattle.layout_bytes.specs.Node.{node_spelling}
use Rattle.layout_journal.proofs.block.root_block.Goals as goal

pub returns : goal.returns
returns c = ap₂ ◌++◌ (c.write_node.ensures ∙ ap (λ runs. node_spelling c.args.layout (record { kind = Dir; links = 1; size = 0; runs = runs })) c.new.ensures) (drop-replicate c.node_length.result 1024 0 ∙ ap (λ n. replicate (1024 - n) 0) c.node_length.ensures)
