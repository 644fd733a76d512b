use Rattle.std.proofs.Common.{◌≡◌, ◌-◌, ◌*◌, ◌++◌, drop, length}
use Rattle.layout_bytes.specs.Node.{runs_in}
use Rattle.layout_node.proofs.read.runs_in.Given as goal

-- the runs so far, and those that are left
abbrev pub invariant-loop-k : goal.invariant-loop-k
invariant-loop-k l = (length l.runs ≡ l.k) × (runs_in l.count l.bytes ≡ l.runs ++ runs_in (l.count - l.k) (drop (8 * l.k) l.bytes))
