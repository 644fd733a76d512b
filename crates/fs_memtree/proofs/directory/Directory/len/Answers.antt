use Rattle.std.proofs.Common.{◌∙◌, sym}
use Rattle.fs_memtree.proofs.keys.InOrder.{tree_length}
use Rattle.fs_memtree.proofs.directory.Directory.len.Goals as goal

pub returns-clause-value : goal.returns-clause-value
returns-clause-value c = c.len.ensures.len ∙ sym (tree_length c.self.inside.entries.entries c.args.self.now c.len.ensures.ordered c.self.view_is)
