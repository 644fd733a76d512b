use Rattle.std.proofs.Common.{List, ap, ◌∙◌}
use Rattle.fs_check.specs.declared.looked.Looked.{Looked}
use Rattle.fs_check.specs.Looked.{seen}
use Rattle.fs_check.proofs.Ruled.{no_root}
use Rattle.fs_check.proofs.tree.find_tree.Goals as goal

pub returns-in_default-clause-broken : goal.returns-in_default-clause-broken
returns-in_default-clause-broken g c = λ tells.
    no_root (g.S.Blocks.state c.args.blocks.now).books.geom.layout (g.N.Nodes.nodes (g.S.Blocks.state c.args.blocks.now) c.args.files.now).files c.in_ok-nodes.nodes.items (c.in_ok-nodes.ensures.seen tells)
    (λ d. c.in_default.not-Directory d.0 (c.seen.ensures ∙ ap (λ (xs : List Looked). seen xs 1) c.as_slice-list.ensures.value ∙ d.1))
