use Rattle.std.proofs.Common.{rules}
use Rattle.fs_memtree.proofs.maps.Slots.{stat_dir}
use Rattle.fs_memtree.proofs.nodes.Nodes.stat.Goals as goal

pub returns-in-Some-Dir : goal.returns-in-Some-Dir
returns-in-Some-Dir c = stat_dir c.args.self.now c.args.number c.len.result c.in-Some-Dir.names (search rules) c.len.ensures.value
