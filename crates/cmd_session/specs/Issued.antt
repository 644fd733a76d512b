-- What the disk of a session comes to where all that was issued is on it. It is described in docs/CRASHES.md.
use Rattle.std.specs.Prelude.{◌≡◌, ℕ, ◌-◌, ◌≤◌, List, length, take, slice_get, Some}
use Rattle.base_types.specs.Seal.{Blocks}
use Rattle.disk_contract.specs.declared.event.Event.{Event}
use Rattle.crash_argument.specs.Ledger.{issued}
use Rattle.crash_stands.specs.Stands.{StandsFor}
use Rattle.lang_tree.specs.declared.command.Cmd.{Cmd}
use Rattle.lang_tree.specs.declared.command.Reply.{Reply}
use Rattle.lang_tree.specs.Points.{Point, points_of}
use Rattle.lang_tree.specs.Step.{Session}
use Rattle.cmd_session.specs.Histories.{last_mark, HasNoFault}

-- The image of a disk of n blocks that has all that was issued stands for the last of these points.
pub record StandsForLast (n : ℕ) (base : Blocks) (log : List Event) (points : List Point) : Type 0 where
  pub point : Point
  pub is : slice_get points (length points - 1) ≡ Some point
  pub stands : StandsFor n (issued base log) point.tree

-- At the mount's end and at the mark of each reply before any fault of the disk, the image that has all that was issued by then stands for the last point by then.
pub record IssuesLast (n : ℕ) (base : Blocks) (s : Session) (log : List Event) (mounted : ℕ) (cmds : List Cmd) (replies : List Reply) (marks : List ℕ) : Type 0 where
  pub each : (i : ℕ) → i ≤ length replies → HasNoFault (take i replies)
      → ∥ StandsForLast n base (take (last_mark mounted (take i marks)) log) (points_of s mounted (take i cmds) (take i replies) (take i marks)) ∥₁
