-- How a disk in memory is asked to behave, on which a session is hosted: its rule of notices, the write that is lost, and its session. It is described in docs/TRACE.md.
use Rattle.std.specs.Prelude.{◌≡◌, ◌⊎◌, ℕ, true, IsTrue, List, [], ◌∷◌, Option, Some, None}
use Rattle.disk_contract.specs.declared.event.Event.{Event}
use Rattle.disk_contract.specs.Manner.{Manner}
use Rattle.layout_geometry.specs.Geometry.{Geometry}
use Rattle.crash_argument.specs.Opening.{LosesOne}
use Rattle.crash_argument.specs.Points.{MountedSession}
use Rattle.disk_memory.specs.declared.calls.DiskCall.TheVariants.{Write}
use Rattle.disk_memory.specs.declared.calls.Fail.{Fail}
use Rattle.disk_memory.specs.declared.rule.Rule.{Rule}
use Rattle.disk_memory.specs.declared.rule.Rule.TheVariants as rules
use Rattle.cmd_words.specs.declared.request.Notices.{Notices}
use Rattle.cmd_words.specs.declared.request.Notices.TheVariants as words

-- the disk of a hosted session: its geometry, and how it behaves
pub record Setting : Type 0 where
  pub shape : Geometry
  pub manner : Manner

-- the rule of a disk in memory that the words name
abbrev pub rule_of : Notices → Rule
rule_of words.Silent = rules.Silent
rule_of words.Fifo = rules.Fifo
rule_of (words.Seed seed) = rules.Seed seed

-- the calls that are to fail: the write of this number, or none
abbrev pub fails_of : Option ℕ → List Fail
fails_of None = []
fails_of (Some write) = record { kind = Write; nth = write } ∷ []

-- the session on a disk that was just formatted, behind so many events of its mount: that disk has epoch 1, so its records have the next one
abbrev pub session_by : Geometry → ℕ → MountedSession
session_by g mounted = record { geom = g; epoch = 2; mounted = mounted; first = 1 }

-- A mount with nothing to replay fails where a read may, or a poll or a wait; where no first write may come; or where the first may be lost, and then that is its one event.
abbrev pub MountFails : Manner → List Event → Type 0
MountFails m log = (m.reads_fail ≡ true) ⊎ ((m.stalls ≡ true) ⊎ (IsTrue (m.refuses []) ⊎ (LosesOne [] log × IsTrue (m.loses []))))
