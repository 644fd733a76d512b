use Rattle.std.proofs.Common.{◌-◌, ◌+◌}
use Rattle.fs_files.proofs.calling.Unused.{SeenUpTo}
use Rattle.fs_files.proofs.unused.least_unused.Given as goal

abbrev pub invariant-loop-number : goal.invariant-loop-number
invariant-loop-number g l = SeenUpTo g.S.Blocks.tells (g.S.Blocks.state l.fn.blocks) (g.S.Blocks.state l.blocks) l.draft l.from l.number

abbrev pub decreases-loop-number : goal.decreases-loop-number
decreases-loop-number g l = l.limit + 1 - l.number
