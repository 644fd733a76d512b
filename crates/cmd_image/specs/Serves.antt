-- With which session a run over an image begins, and how far it has come then. What each of its commands does is said by the log of the disk (`Pacing` of `cmd_session`). It is described in docs/RUNNING.md.
use Rattle.std.specs.Prelude.{◌≡◌, ℕ, ◌+◌, false, length, None}
use Rattle.disk_contract.specs.Disk.{State}
use Rattle.layout_geometry.specs.Geometry.{Geometry}
use Rattle.engine_recover.specs.Search.{last_number}
use Rattle.crash_argument.specs.Points.{MountedSession}
use Rattle.engine_mount.specs.Mount.{FoundDisk, IsFoundOn}
use Rattle.lang_tree.specs.Step.{Session}
use Rattle.fs_session.specs.Room.{Room}
use Rattle.cmd_session.specs.Pacing.{Pace}
use Rattle.cmd_session.specs.Taking.{nothing_taken}

-- The session of a mount of this disk that ended after so many events: its epoch is one above the greatest that was found there, and its first record has the number behind the last one of the run that was found.
pub record IsMountOf (d : State) (g : Geometry) (ended : ℕ) (s : MountedSession) : Type 0 where
  pub found : FoundDisk
  pub is_found : IsFoundOn d found
  pub geom : s.geom ≡ g
  pub epoch : s.epoch ≡ found.epoch + 1
  pub mounted : s.mounted ≡ ended
  pub first : s.first ≡ last_number found.run.header (length found.run.records) + 1

-- as the mount of this disk ends after so many events, with this session in this room: no call has failed, nothing is taken, and no block waits
abbrev pub pace_at_mount : State → ℕ → Session → Room → Pace
pace_at_mount d mounted f r = record { polls = d.polls; events = mounted; over = false; durable = 0; taken = nothing_taken f; room = record { room = r; since = λ b. None } }
