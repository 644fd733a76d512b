-- What every crash of a run may leave. It is described in docs/CRASHES.md.
use Rattle.std.specs.Prelude.{◌≡◌, ℕ, ◌≤◌, List, length, take, slice_get, Some}
use Rattle.base_types.specs.Seal.{Blocks}
use Rattle.disk_contract.specs.declared.event.Event.{Event}
use Rattle.disk_contract.specs.Crash.{IsHonest}
use Rattle.crash_stands.specs.Stands.{StandsFor}
use Rattle.lang_tree.specs.declared.command.Cmd.{Cmd}
use Rattle.lang_tree.specs.declared.command.Reply.{Reply}
use Rattle.lang_tree.specs.Tree.{Bounds, Tree}
use Rattle.lang_tree.specs.Step.{Session, session_on}
use Rattle.lang_tree.specs.Points.{Point, points_of, floor, top}

-- The image of a disk of n blocks stands for one of the points, with a number from `low` to `high`.
pub record StandsForOne (n : ℕ) (img : Blocks) (points : List Point) (low high : ℕ) : Type 0 where
  pub number : ℕ
  pub point : Point
  pub from : low ≤ number
  pub upto : number ≤ high
  pub is : slice_get points number ≡ Some point
  pub stands : StandsFor n img point.tree

-- Each honest image that a crash after any of these events may leave stands for one sync point of the session: none older than the last one promised by then, and none newer than the last one begun by then.
pub record LeavesPoints (n : ℕ) (base : Blocks) (s : Session) (log : List Event) (mounted : ℕ) (cmds : List Cmd) (replies : List Reply) (marks : List ℕ) : Type 0 where
  pub each : (k : ℕ) (img : Blocks) → k ≤ length log → IsHonest n base (take k log) img
      → ∥ StandsForOne n img (points_of s mounted cmds replies marks) (floor k replies marks) (top k s mounted cmds replies marks) ∥₁

-- No honest image that a crash after any of these events may leave stands for a tree.
pub record LeavesNoTree (n : ℕ) (base : Blocks) (log : List Event) : Type 0 where
  pub each : (k : ℕ) (img : Blocks) → k ≤ length log → IsHonest n base (take k log) img → (t : Tree) → ¬ StandsFor n img t

-- What crashes leave of a disk that began with these blocks, whatever they are. Where they stand for a tree, that is point 0 of the session; where they stand for none, no image does later on.
pub record IsCrashConsistent (n : ℕ) (limit : Bounds) (base : Blocks) (log : List Event) (mounted : ℕ) (cmds : List Cmd) (replies : List Reply) (marks : List ℕ) : Type 0 where
  pub points : (t : Tree) → StandsFor n base t → LeavesPoints n base (session_on limit t) log mounted cmds replies marks
  pub none : ((t : Tree) → ¬ StandsFor n base t) → LeavesNoTree n base log
