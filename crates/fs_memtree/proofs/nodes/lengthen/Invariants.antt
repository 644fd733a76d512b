use Rattle.std.proofs.Common.{◌≡◌, ◌≤◌, ◌+◌, length}
use Rattle.fs_memtree.specs.Stored.{nodes_of, things, AreUnused}
use Rattle.fs_memtree.proofs.nodes.lengthen.Given as goal

abbrev pub invariant-loop-index : goal.invariant-loop-index
invariant-loop-index l =
    (length l.row.items ≡ l.index) × (l.index ≤ l.len) × (nodes_of l.row.items ≡ nodes_of l.fn.row.items) × AreUnused l.unused (things l.row.items)
