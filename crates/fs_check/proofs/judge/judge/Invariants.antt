use Rattle.fs_check.specs.Judged.{Agree}
use Rattle.fs_check.proofs.judge.judge.Given as goal

abbrev pub invariant-loop-node : goal.invariant-loop-node
invariant-loop-node l = Agree l.nodes l.named l.marks l.node
