use Rattle.std.proofs.Common.{◌≡◌, ◌++◌, take}
use Rattle.fs_commands.proofs.gathering.push_blocks.Given as goal

abbrev pub invariant-loop-i : goal.invariant-loop-i
invariant-loop-i l = l.list.items ≡ l.fn.list.items ++ take l.i l.blocks
