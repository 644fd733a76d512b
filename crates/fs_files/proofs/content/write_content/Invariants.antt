use Rattle.std.proofs.Common.{◌-◌, ◌+◌, length}
use Rattle.fs_files.specs.Bytes.{met}
use Rattle.fs_files.proofs.bytes.Loops.{WritesUpTo}
use Rattle.fs_files.proofs.content.write_content.Given as goal

abbrev pub invariant-loop-done : goal.invariant-loop-done
invariant-loop-done g l = WritesUpTo g.S.Blocks.tells (g.S.Blocks.state l.fn.blocks) (g.S.Blocks.state l.blocks) l.class (met l.from (l.from + length l.bytes) l.places) l.fn.draft l.draft l.places l.from l.done l.bytes

abbrev pub decreases-loop-done : goal.decreases-loop-done
decreases-loop-done g l = length l.bytes - l.done
