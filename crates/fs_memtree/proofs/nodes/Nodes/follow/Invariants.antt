use Rattle.std.proofs.Common.{◌≡◌, drop}
use Rattle.fs_inodes.specs.Lookups.{walk_on}
use Rattle.fs_memtree.specs.Kept.{map_of}
use Rattle.fs_memtree.proofs.nodes.Nodes.follow.Given as goal

abbrev pub invariant-loop-name : goal.invariant-loop-name
invariant-loop-name l = walk_on (map_of l.self) l.number (drop l.name-index l.path) ≡ walk_on (map_of l.self) 1 l.path
