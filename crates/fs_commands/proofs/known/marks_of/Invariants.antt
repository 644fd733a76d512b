use Rattle.std.proofs.Common.{◌≡◌, ◌<◌, ℕ, false, length, take, get_or}
use Rattle.engine_blocks.specs.Running.{has}
use Rattle.fs_commands.proofs.known.marks_of.Given as goal

abbrev pub invariant-loop-b : goal.invariant-loop-b
invariant-loop-b l = record {
  long : length l.marks.items ≡ l.blocks;
  marks : (b : ℕ) → b < l.blocks → get_or l.marks.items b false ≡ has (take l.b-index l.list) b;
}
