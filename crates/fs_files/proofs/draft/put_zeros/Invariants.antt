use Rattle.std.proofs.Common.{take}
use Rattle.fs_files.specs.Zeros.{HaveZeros}
use Rattle.fs_files.proofs.draft.put_zeros.Given as goal

abbrev pub invariant-loop-b : goal.invariant-loop-b
invariant-loop-b l = HaveZeros l.class (take l.b-index l.list) l.fn.changes l.changes
