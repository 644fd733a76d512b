use Rattle.std.proofs.Common.{◌≡◌, ◌≤◌, length, take}
use Rattle.fs_memtree.specs.Stored.{things}
use Rattle.fs_memtree.proofs.nodes.copied_row.Given as goal

abbrev pub invariant-loop-place : goal.invariant-loop-place
invariant-loop-place l = (l.place-index ≤ length l.row) × (things l.copy.items ≡ take l.place-index (things l.row))
