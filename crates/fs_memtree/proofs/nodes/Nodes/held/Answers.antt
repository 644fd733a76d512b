use Rattle.std.proofs.Common.{◌∙◌, rules}
use Rattle.fs_memtree.proofs.maps.Slots.{count_in_dir}
use Rattle.fs_memtree.proofs.nodes.Nodes.held.Goals as goal

pub returns-in-Some-Dir-clause-value : goal.returns-in-Some-Dir-clause-value
returns-in-Some-Dir-clause-value c = c.len.ensures.value ∙ count_in_dir c.args.self.now c.args.number c.in-Some-Dir.names (search rules)
