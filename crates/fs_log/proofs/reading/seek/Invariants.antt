use Rattle.std.proofs.Common.{◌≡◌, ◌≤◌, ◌-◌, IsTrue}
use Rattle.lang_log.specs.Segments.{Segment}
use Rattle.fs_commands.specs.Opened.{MayFollow, blocks_in}
use Rattle.fs_log.specs.Finding.{AsksOnly}
use Rattle.fs_log.specs.Reading.{HoldsSegment, IsAt}
use Rattle.fs_log.proofs.reading.seek.Given as goal

abbrev pub invariant-loop-left : goal.invariant-loop-left
invariant-loop-left g l =
    MayFollow g.S.Blocks.tells g.S.Blocks.state l.fs
    × (IsTrue g.S.Blocks.tells → AsksOnly g.S.Blocks.tells g.S.Blocks.state (blocks_in l.fn.fs) (blocks_in l.fs))
    × (l.left ≤ l.others)
    × (IsTrue g.S.Blocks.tells → (s : Segment) → HoldsSegment s (g.S.Blocks.state (blocks_in l.fn.fs)) → l.first ≡ s.first → IsAt s l.offset (l.others - l.left))

abbrev pub decreases-loop-left : goal.decreases-loop-left
decreases-loop-left g l = l.left
