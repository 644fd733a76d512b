-- A file system over blocks on a disk, from its mount on: how whole runs of commands are answered, and what crashes leave of them. It is described in docs/CRASHES.md.
use Rattle.std.specs.Prelude.{◌≡◌, ℕ, ◌+◌, ◌≤◌, false, true, List, length, take, slice_get, Some}
use Rattle.base_types.specs.Seal.{Blocks}
use Rattle.disk_contract.specs.Crash.{IsHonest, Window}
use Rattle.layout_geometry.specs.Geometry.{Geometry}
use Rattle.lang_tree.specs.declared.command.Cmd.{Cmd}
use Rattle.lang_tree.specs.declared.command.Refusal.TheVariants.{DiskFault}
use Rattle.lang_tree.specs.declared.command.Reply.{Reply}
use Rattle.lang_tree.specs.declared.command.Reply.TheVariants.{Refused}
use Rattle.lang_tree.specs.Points.{Point, points_of, floor}
use Rattle.lang_tree.specs.Run.{Run, StopsAfterFault, is_of_disk}
use Rattle.lang_tree.specs.Step.{Session, session_on}
use Rattle.lang_tree.specs.Tree.{Tree}
use Rattle.crash_stands.specs.Bounds.{bounds_of}
use Rattle.cmd_trace.specs.Trace.{Ascend}
use Rattle.crash_argument.specs.Ledger.{HoldsUnder, issued}
use Rattle.engine_blocks.specs.Crashes.{HasMapOfPoint}
use Rattle.engine_blocks.specs.State.{State}
use Rattle.fs_session.specs.Points.{KnowsPoints}
use Rattle.fs_session.specs.Sessions.{IsSession}
use Rattle.cmd_session.specs.Crashes.{LeavesPoints}
use Rattle.cmd_session.specs.Histories.{session_after, HasNoFault}
use Rattle.cmd_session.specs.Issued.{IssuesLast}

-- the point of this number has this tree
pub record HasTree (points : List Point) (number : ℕ) (t : Tree) : Type 0 where
  pub point : Point
  pub is : slice_get points number ≡ Some point
  pub tree : point.tree ≡ t

-- What goes on from one command to the next: the blocks are those of the session, their sync points have the trees of its points under the same numbers, what was promised is on the disk, and a call of the disk has failed exactly where a reply says so.
pub record GoesOn (f : Session) (points : List Point) (replies : List Reply) (marks : List ℕ) (s : State) : Type 0 where
  pub session : IsSession s f
  pub trees : ℕ → Tree
  pub known : KnowsPoints s trees
  pub numbered : (p : ℕ) → p ≤ s.books.point → HasTree points p (trees p)
  pub exact : s.books.stopped ≡ false → length points ≡ s.books.point + 1
  pub promised : (k : ℕ) → floor k replies marks ≤ s.books.floor
  pub ended : (i : ℕ) → slice_get replies i ≡ Some (Refused DiskFault) → s.books.stopped ≡ true
  pub going : HasNoFault replies → s.books.stopped ≡ false

-- The view of crashes is drawn from the disk's base and events: an honest image of a moment may be left since then, and an image holds a map under a header of the blocks' geometry, that which has all that was issued as well.
pub record IsDrawn (s : State) : Type 0 where
  pub left : (since k : ℕ) (img : Blocks) → since ≤ k → k ≤ length s.crash.log → IsHonest s.books.geom.n s.crash.base (take k s.crash.log) img → s.crash.left_since since img
  pub holds : (img m : Blocks) → s.crash.holds img m → HoldsUnder s.books.geom.n s.books.geom img m
  pub issued : (m : Blocks) → s.crash.issued m → s.crash.holds (issued s.crash.base s.crash.log) m

-- Blocks that were just mounted with this map: it is their map, they have each map of point 0 on its live blocks, and each honest image of each moment so far holds it.
pub record IsMountedWith (g : Geometry) (m : Blocks) (s : State) : Type 0 where
  pub geom : s.books.geom ≡ g
  pub map : s.map ≡ m
  pub only : HasMapOfPoint s 0
  pub images : Window g.n s.crash.base s.crash.log 0 (λ img. HoldsUnder g.n g img m)

-- These commands were answered with these replies, at these marks, since the disk was mounted with tree t: each as the tree answers it, or refused for a reason of the disk, and none was done after a fault of the disk. Each honest crash image of each moment stands for one sync point, none older than the last one promised by then. At each mark before any fault, all that was issued stands for the last point.
pub record HasServed (g : Geometry) (t : Tree) (mounted : ℕ) (cmds : List Cmd) (replies : List Reply) (marks : List ℕ) (s : State) : Type 0 where
  pub geom : s.books.geom ≡ g
  pub run : Run is_of_disk (session_on (bounds_of g) t) cmds replies (session_after (session_on (bounds_of g) t) cmds replies)
  pub stops : StopsAfterFault cmds replies
  pub answered : length cmds ≡ length replies
  pub marked : length marks ≡ length replies
  pub ascend : Ascend mounted marks (length s.crash.log)
  pub crashes : LeavesPoints g.n s.crash.base (session_on (bounds_of g) t) s.crash.log mounted cmds replies marks
  pub issued : IssuesLast g.n s.crash.base (session_on (bounds_of g) t) s.crash.log mounted cmds replies marks
  pub goes_on : GoesOn (session_after (session_on (bounds_of g) t) cmds replies) (points_of (session_on (bounds_of g) t) mounted cmds replies marks) replies marks s
