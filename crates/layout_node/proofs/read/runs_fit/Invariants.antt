use Rattle.std.proofs.Common.{◌≡◌, drop}
use Rattle.layout_bytes.specs.Node.{runs_fit}
use Rattle.layout_node.proofs.read.runs_fit.Given as goal

-- all runs fit where those that are left do
abbrev pub invariant-loop-run : goal.invariant-loop-run
invariant-loop-run l = runs_fit l.geom 0 l.runs ≡ runs_fit l.geom l.end (drop l.run-index l.runs)
