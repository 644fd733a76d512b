use Rattle.std.proofs.Common.{◌≡◌, ◌+◌, ◌*◌, ◌++◌, drop}
use Rattle.arrayvec.specs.ArrayVec.{array_vec_len}
use Rattle.layout_bytes.specs.Node.{run_bytes}
use Rattle.layout_node.proofs.write.put_runs.Given as goal

-- the text so far, and the runs that are left
abbrev pub invariant-loop-run : goal.invariant-loop-run
invariant-loop-run l =
    (l.text.items ++ run_bytes (drop l.run-index l.runs) ≡ l.fn.text.items ++ run_bytes l.runs) × (array_vec_len l.text ≡ array_vec_len l.fn.text + 8 * l.run-index)
