use Rattle.std.proofs.Common.{◌-◌, ◌≤◌, take, drop}
use Rattle.fs_files.specs.Drafts.{FreesBlocks}
use Rattle.fs_files.specs.Growing.{alone}
use Rattle.fs_files.specs.Shared.{is_kept}
use Rattle.fs_files.proofs.grow.shrink.Given as goal

abbrev pub invariant-loop-i : goal.invariant-loop-i
invariant-loop-i l = (l.count ≤ l.i) × FreesBlocks (alone (is_kept l.fn.draft.kept) (take (l.i - l.count) (drop l.count l.fn.node.places))) l.fn.draft l.draft
