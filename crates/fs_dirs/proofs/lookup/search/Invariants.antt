use Rattle.std.proofs.Common.{◌-◌}
use Rattle.fs_dirs.specs.Reading.{HasSought}
use Rattle.fs_dirs.proofs.lookup.search.Given as goal

abbrev pub invariant-loop-first : goal.invariant-loop-first
invariant-loop-first g l = HasSought g.S.Blocks.tells (g.S.Blocks.state l.fn.blocks) (g.S.Blocks.state l.blocks) (g.N.Nodes.nodes (g.S.Blocks.state l.fn.blocks) l.files) l.node l.count l.name l.first

abbrev pub decreases-loop-first : goal.decreases-loop-first
decreases-loop-first g l = l.count - l.first
