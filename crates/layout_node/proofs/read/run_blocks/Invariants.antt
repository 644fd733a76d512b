use Rattle.std.proofs.Common.{◌≡◌, ◌≤◌, ◌+◌, ◌*◌, drop}
use Rattle.layout_bytes.specs.Node.{run_blocks}
use Rattle.layout_node.proofs.read.run_blocks.Given as goal

-- the blocks so far, and those that are left
abbrev pub invariant-loop-run : goal.invariant-loop-run
invariant-loop-run l = (run_blocks l.runs ≡ l.blocks + run_blocks (drop l.run-index l.runs)) × (l.blocks ≤ 4294967295 * l.run-index)
