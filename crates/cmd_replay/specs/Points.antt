-- The sync points of a trace, and which of them a crash may leave. They are described in docs/REPLAY.md.
use Rattle.std.specs.Prelude.{◌≡◌, ℕ, List, length}
use Rattle.lang_tree.specs.Points.{Point, points_of, floor, top}
use Rattle.lang_tree.specs.Step.{start}
use Rattle.crash_stands.specs.Bounds.{bounds_of}
use Rattle.cmd_trace.specs.Contents.{Contents}
use Rattle.cmd_trace.specs.Trace.{Ascend}

-- the sync points of a trace, by their numbers
abbrev pub points_in : Contents → List Point
points_in c = points_of (start (bounds_of c.geometry)) c.mounted c.cmds c.replies c.marks

-- the oldest point that a crash after k events may leave, by its number
abbrev pub floor_at : ℕ → Contents → ℕ
floor_at k c = floor k c.replies c.marks

-- the newest one
abbrev pub top_at : ℕ → Contents → ℕ
top_at k c = top k (start (bounds_of c.geometry)) c.mounted c.cmds c.replies c.marks

-- each command has a reply and a mark, and the marks ascend
pub record IsMarked (c : Contents) : Type 0 where
  pub answered : length c.cmds ≡ length c.replies
  pub marked : length c.marks ≡ length c.replies
  pub events : ℕ
  pub ascend : Ascend c.mounted c.marks events
