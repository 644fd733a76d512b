use Rattle.std.proofs.Common.{◌-◌}
use Rattle.fs_dirs.specs.Reading.{HasListed}
use Rattle.fs_dirs.proofs.listing.push_slots.Given as goal

abbrev pub invariant-loop-first : goal.invariant-loop-first
invariant-loop-first g l = HasListed g.S.Blocks.tells (g.S.Blocks.state l.fn.blocks) (g.S.Blocks.state l.blocks) (g.N.Nodes.nodes (g.S.Blocks.state l.fn.blocks) l.files) l.node l.count l.first l.fn.into.items l.into.items

abbrev pub decreases-loop-first : goal.decreases-loop-first
decreases-loop-first g l = l.count - l.first
