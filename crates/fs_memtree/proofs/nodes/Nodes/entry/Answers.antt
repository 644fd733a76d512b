use Rattle.std.proofs.Common.{◌∙◌, rules}
use Rattle.fs_memtree.proofs.maps.Slots.{entry_of_dir}
use Rattle.fs_memtree.proofs.nodes.Nodes.entry.Goals as goal

pub returns-in-Some-Dir : goal.returns-in-Some-Dir
returns-in-Some-Dir c = c.get.ensures ∙ entry_of_dir c.args.self.now c.args.directory c.in-Some-Dir.names c.args.name.now (search rules)
