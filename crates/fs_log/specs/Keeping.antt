-- What is known of a log over a map of blocks, between calls and at each moment of one.
use Rattle.std.specs.Prelude.{◌≡◌, ◌⊎◌, ℕ, ◌≤◌, false, List, length, Some}
use Rattle.std.specs.FinMap.{get}
use Rattle.base_types.specs.Seal.{Blocks}
use Rattle.lang_tree.specs.Tree.{Tree}
use Rattle.lang_log.specs.Names.{log_path}
use Rattle.lang_log.specs.Segments.{Segment, HasSegments}
use Rattle.lang_log.specs.Log.{Log, IsLogOf, IsMadeOf}
use Rattle.lang_log.specs.History.{History, IsLeft}
use Rattle.crash_stands.specs.Stands.{IsTreeOf, StandsFor}
use Rattle.engine_blocks.specs.Crashes.{Advances}
use Rattle.engine_blocks.specs.State.{State}
use Rattle.fs_session.specs.Points.{KnowsPoints}
use Rattle.fs_session.specs.Sessions.{Stands}

-- The blocks have the log as it is now. The tree of each sync point to which a crash may go back has a log that may be left; and where nothing was changed since the last one, that has the log as it is now.
pub record Keeps (h : History) (s : State) : Type 0 where
  pub trees : ℕ → Tree
  pub known : KnowsPoints s trees
  pub left : (p : ℕ) → s.books.floor ≤ p → p ≤ s.books.point → IsLeft h (trees p)
  pub last : s.books.stopped ≡ false → s.books.running.weight ≡ 0 → IsLogOf (trees s.books.point) h.now
  pub now : (t : Tree) → IsTreeOf s.books.geom s.map t → IsLogOf t h.now

-- the tree has a log that may be left of the one history or of the other
abbrev pub IsLeftOf : History → History → Tree → Type 0
IsLeftOf h k t = IsLeft h t ⊎ IsLeft k t

-- The image holds a map of blocks that stands for a tree with such a log.
pub record LeavesLog (h k : History) (s : State) (img : Blocks) : Type 0 where
  pub map : Blocks
  pub holds : s.crash.holds img map
  pub tree : Tree
  pub stands : IsTreeOf s.books.geom map tree
  pub left : IsLeftOf h k tree

-- The image of a disk of n blocks stands for a tree with such a log.
pub record StandsForLog (n : ℕ) (img : Blocks) (h k : History) : Type 0 where
  pub tree : Tree
  pub stands : StandsFor n img tree
  pub left : IsLeftOf h k tree

-- A call took a log from one history to another. At each moment of it a crash leaves a log that may be left of one of them. What a crash since an earlier moment may leave it might have left before the call, or it has such a log. Time went on over the call, of the same disk.
pub record Goes (h k : History) (old new : State) : Type 0 where
  pub keeps : Keeps k new
  pub crashes : (img : Blocks) → new.crash.left_since (length old.crash.log) img → ∥ LeavesLog h k new img ∥₁
  pub earlier : (moment : ℕ) (img : Blocks) → moment ≤ length old.crash.log → new.crash.left_since moment img
      → old.crash.left_since moment img ⊎ ∥ LeavesLog h k new img ∥₁
  pub advances : Advances old new
  pub geom : new.books.geom ≡ old.books.geom
  pub manner : new.counts.ticks.manner ≡ old.counts.ticks.manner

-- the call took each log from the history that it had to the one that comes of that
abbrev pub TakesLog : (History → History) → State → State → Type 0
TakesLog change old new = (h : History) → Keeps h old → Goes h (change h) old new

-- the history stays as it is
abbrev pub as_before : History → History
as_before h = h

-- The blocks stand for a tree, and each one for which they stand has the directory of the log and these segments, which make this log.
pub record HoldsLog (segments : List Segment) (l : Log) (s : State) : Type 0 where
  pub stands : Stands s
  pub there : (t : Tree) → IsTreeOf s.books.geom s.map t → (n : ℕ) × (get t.names log_path ≡ Some n)
  pub has : (t : Tree) → IsTreeOf s.books.geom s.map t → HasSegments t segments
  pub made : IsMadeOf segments l

-- The call left the log as it was: its history, and whatever segments the blocks held. Time went on.
pub record Rests (old new : State) : Type 0 where
  pub takes : TakesLog as_before old new
  pub time : Advances old new
  pub holds : (segments : List Segment) (l : Log) → HoldsLog segments l old → HoldsLog segments l new
