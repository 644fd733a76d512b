-- What all writes that a disk accepted in a session stand for, before any fault of it. It is described in docs/CRASHES.md.
use Rattle.std.specs.Prelude.{◌≡◌, ℕ, ◌-◌, ◌≤◌, List, length, take, slice_get, Some}
use Rattle.base_types.specs.Seal.{Blocks}
use Rattle.disk_contract.specs.declared.event.Event.{Event}
use Rattle.disk_contract.specs.Cell.{accepted}
use Rattle.crash_stands.specs.Stands.{StandsFor}
use Rattle.lang_tree.specs.declared.command.Cmd.{Cmd}
use Rattle.lang_tree.specs.declared.command.Reply.{Reply}
use Rattle.lang_tree.specs.Points.{Point, points_of}
use Rattle.lang_tree.specs.Step.{Session}
use Rattle.cmd_session.specs.Histories.{HasNoFault, last_mark}

-- The image of a disk of n blocks that has all accepted writes among these events, and no other, stands for the last of these points.
pub record StandsAccepted (n : ℕ) (base : Blocks) (log : List Event) (points : List Point) : Type 0 where
  pub point : Point
  pub is : slice_get points (length points - 1) ≡ Some point
  pub stands : StandsFor n (accepted base log) point.tree

-- At the mount's end and at the mark of each reply before any fault of the disk, it does so for the last point by then.
pub record AcceptsLast (n : ℕ) (base : Blocks) (s : Session) (log : List Event) (mounted : ℕ) (cmds : List Cmd) (replies : List Reply) (marks : List ℕ) : Type 0 where
  pub each : (i : ℕ) → i ≤ length replies → HasNoFault (take i replies)
      → ∥ StandsAccepted n base (take (last_mark mounted (take i marks)) log) (points_of s mounted (take i cmds) (take i replies) (take i marks)) ∥₁
