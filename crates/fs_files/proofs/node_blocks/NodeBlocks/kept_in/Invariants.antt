use Rattle.std.proofs.Common.{◌≡◌, ◌≤◌, take, length}
use Rattle.std.specs.List.{filter}
use Rattle.fs_files.specs.Shared.{is_kept}
use Rattle.fs_files.proofs.node_blocks.NodeBlocks.kept_in.Given as goal

abbrev pub invariant-loop-i : goal.invariant-loop-i
invariant-loop-i l = (l.kept ≤ l.i) × (l.kept ≡ length (filter (is_kept l.shared) (take l.i l.part-inside.places)))
