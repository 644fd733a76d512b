-- Which records the log of a session tells of one command. It is described in docs/CRASH-SAFETY.md.
use Rattle.std.specs.Prelude.{ℕ, List, take, drop}
use Rattle.disk_contract.specs.declared.event.Event.{Event}
use Rattle.layout_journal.specs.declared.record.Commit.{Commit}
use Rattle.crash_argument.specs.Points.{MountedSession, commits_told}

-- The records of a session are those whose commit blocks of its epoch its log has behind the mount. These the log tells of one command: those that came behind the first `behind` events, up to the mark.
abbrev pub own_records : MountedSession → List Event → ℕ → ℕ → List Commit
own_records s log behind mark = commits_told s.geom s.epoch (drop behind (take mark log))
