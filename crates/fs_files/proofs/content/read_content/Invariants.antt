use Rattle.fs_files.proofs.bytes.Loops.{ReadsUpTo}
use Rattle.std.proofs.Common.{◌-◌}
use Rattle.fs_files.proofs.content.read_content.Given as goal

abbrev pub invariant-loop-at : goal.invariant-loop-at
invariant-loop-at g l = ReadsUpTo g.S.Blocks.tells (g.S.Blocks.state l.fn.blocks) (g.S.Blocks.state l.blocks) l.draft l.places l.from l.at l.end l.fn.into.items l.into.items

abbrev pub decreases-loop-at : goal.decreases-loop-at
decreases-loop-at g l = l.end - l.at
