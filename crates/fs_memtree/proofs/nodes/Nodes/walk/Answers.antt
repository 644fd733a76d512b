use Rattle.fs_inodes.specs.Lookups.{number_at}
use Rattle.fs_memtree.specs.Kept.{map_of}
use Rattle.fs_memtree.proofs.maps.Walking.{found_by, on_ok, on_err}
use Rattle.fs_memtree.proofs.nodes.Nodes.walk.Goals as goal

pub returns-clause-ok : goal.returns-clause-ok
returns-clause-ok c = on_ok c.follow.result (number_at (map_of c.args.self.now) c.args.path.now) (found_by (map_of c.args.self.now) c.args.path.now c.follow.result c.follow.ensures)

pub returns-clause-err : goal.returns-clause-err
returns-clause-err c = on_err c.follow.result (number_at (map_of c.args.self.now) c.args.path.now) (found_by (map_of c.args.self.now) c.args.path.now c.follow.result c.follow.ensures)
