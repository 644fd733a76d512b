-- What traces of wrong programs have in common, each in one command. By the clause of a recording no run has them. It is described in docs/PROMISES.md.
use Rattle.std.specs.Prelude.{◌≡◌, ◌≢◌, ℕ, true, false, List, drop, take}
use Rattle.disk_contract.specs.declared.event.Event.{Event}
use Rattle.disk_contract.specs.Cell.{has_lost, IsNoticed}
use Rattle.disk_contract.specs.Disk.{PollsThenWrites, writes_in}
use Rattle.disk_contract.specs.Manner.{Manner}
use Rattle.crash_argument.specs.Points.{MountedSession}
use Rattle.lang_tree.specs.declared.command.Refusal.TheVariants.{Spent}
use Rattle.lang_tree.specs.declared.command.Reply.{Reply}
use Rattle.lang_tree.specs.declared.command.Reply.TheVariants.{Refused}
use Rattle.cmd_session.specs.Pacing.{Pace}
use Rattle.cmd_session.specs.Taking.{CameIn, Span}

-- a write was lost among the events of a command between these two
abbrev pub LosesOwn : List Event → Pace → Pace → Type 0
LosesOwn log old new = has_lost (drop old.events (take new.events log)) ≡ true

-- The command began, on a disk whose waits bring the notice of their own ticket alone.
pub record Goes (m : Manner) (reply : Reply) (old : Pace) : Type 0 where
  pub going : old.over ≡ false
  pub unspent : reply ≢ Refused Spent
  pub alone : m.waits_alone ≡ true

-- behind the notices of its tick come writes alone
abbrev pub WaitsForNothing : Manner → List Event → Pace → Pace → Type 0
WaitsForNothing m log old new = PollsThenWrites m 64 old.polls (take old.events log) new.polls (take new.events log)

-- nothing was written since the mount
abbrev pub IsUnwritten : MountedSession → List Event → Type 0
IsUnwritten s behind = writes_in (drop s.mounted behind) ≡ 0

-- all writes that came in the span have their notice
abbrev pub IsHeard : List Event → Span → Type 0
IsHeard log span = (t : ℕ) → CameIn log span t → IsNoticed t log
