use Rattle.std.proofs.Common.{drop}
use Rattle.crash_stands.specs.Inodes.{inodes_of}
use Rattle.fs_dirs.specs.Reading.{HasWalked}
use Rattle.fs_dirs.proofs.walks.walk_names.Given as goal

abbrev pub invariant-loop-name : goal.invariant-loop-name
invariant-loop-name g l =
    HasWalked g.S.Blocks.tells (g.S.Blocks.state l.fn.blocks) (g.S.Blocks.state l.blocks) (inodes_of (g.S.Blocks.state l.fn.blocks).books.geom.layout (g.N.Nodes.nodes (g.S.Blocks.state l.fn.blocks) l.files).files) l.names (drop l.name-index l.names) l.number
