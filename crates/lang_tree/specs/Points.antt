-- The sync points of a run of commands, and which of them a crash may leave. They are described in docs/CRASHES.md.
use Rattle.std.specs.Prelude.{ℕ, ◌+◌, ◌<◌, ◌≤◌, ◌^◌, max, nat_le, Bool, true, false, if◌then◌else◌, ◌&&◌, List, [], ◌∷◌, ◌++◌}
use Rattle.lang_tree.specs.declared.command.Cmd.{Cmd}
use Rattle.lang_tree.specs.declared.command.Cmd.TheVariants.{Osync, Dsync, Durable, Dwait}
use Rattle.lang_tree.specs.declared.command.Reply.{Reply}
use Rattle.lang_tree.specs.declared.command.Reply.TheVariants.{DurableAt, Known, Refused}
use Rattle.lang_tree.specs.declared.command.Refusal.TheVariants.{DiskFault}
use Rattle.lang_tree.specs.Tree.{Tree}
use Rattle.lang_tree.specs.Step.{Session, step}

-- A sync point: its tree, and the number of events before the command that made it. A crash after fewer events can't leave it.
pub record Point : Type 0 where
  pub tree : Tree
  pub begun : ℕ

abbrev pub is_refusal : Reply → Bool
is_refusal (Refused why) = true
is_refusal _ = false

-- whether the command makes a sync point where something changed
abbrev pub is_sync : Cmd → Bool
is_sync Osync = true
is_sync Dsync = true
is_sync _ = false

-- whether the command asks for a sync point that is on the disk
abbrev pub asks_for_durability : Cmd → Bool
asks_for_durability Dsync = true
asks_for_durability Durable = true
asks_for_durability (Dwait n) = true
asks_for_durability _ = false

-- whether the command, where it is done, answers the number of a sync point
abbrev pub answers_point : Cmd → Bool
answers_point Osync = true
answers_point cmd = asks_for_durability cmd

-- The greatest point that a dsync or a dwait answered is none past the last point, whose number has 64 bits.
pub record CountsPoints (s : Session) : Type 0 where
  pub made : s.durable ≤ s.points
  pub low : s.points < 2 ^ 64

-- the session after a command with its reply: a refusal leaves all as it was
abbrev pub after_reply : Session → Cmd → Reply → Session
after_reply s cmd reply = if is_refusal reply then s else (step s cmd).0

-- whether a sync that was answered so may have written its tree: it is done, or the disk failed on the way
abbrev pub may_have_written : Reply → Bool
may_have_written (Refused DiskFault) = true
may_have_written (Refused why) = false
may_have_written _ = true

-- the point that a command makes: a sync that may have written its tree makes one where something changed since the last one
abbrev pub made_by : Session → Cmd → Reply → ℕ → List Point
made_by s cmd reply mark = if is_sync cmd && (s.changed && may_have_written reply) then record { tree = s.tree; begun = mark } ∷ [] else []

-- The points that commands make, in order. A mark is the number of events when a reply comes, and a command begins at the mark before it.
abbrev pub points_after : Session → ℕ → List Cmd → List Reply → List ℕ → List Point
points_after s begun [] replies marks = []
points_after s begun (cmd ∷ cmds) [] marks = []
points_after s begun (cmd ∷ cmds) (reply ∷ replies) [] = []
points_after s begun (cmd ∷ cmds) (reply ∷ replies) (mark ∷ marks) =
    made_by s cmd reply begun ++ points_after (after_reply s cmd reply) mark cmds replies marks

-- all points of a session: point 0 is the tree with which it began, and there from the first moment on
abbrev pub points_of : Session → ℕ → List Cmd → List Reply → List ℕ → List Point
points_of s mounted cmds replies marks = record { tree = s.tree; begun = 0 } ∷ points_after s mounted cmds replies marks

-- how many of these points began at moment k or before
abbrev pub begun_by : ℕ → List Point → ℕ
begun_by k [] = 0
begun_by k (p ∷ points) = (if nat_le p.begun k then 1 else 0) + begun_by k points

-- the newest point that a crash after k events may leave, by its number: the last one begun by then
abbrev pub top : ℕ → Session → ℕ → List Cmd → List Reply → List ℕ → ℕ
top k s mounted cmds replies marks = begun_by k (points_after s mounted cmds replies marks)

-- the point that a reply promises to be on the disk from then on: the one that a dsync or a dwait waited for, or that is known to be there. Any other reply promises none past point 0
abbrev pub promised_by : Reply → ℕ
promised_by (DurableAt n) = n
promised_by (Known n) = n
promised_by _ = 0

-- the oldest point that a crash after k events may leave, by its number: the greatest that was promised by then
abbrev pub floor : ℕ → List Reply → List ℕ → ℕ
floor k [] marks = 0
floor k (reply ∷ replies) [] = 0
floor k (reply ∷ replies) (mark ∷ marks) = max (if nat_le mark k then promised_by reply else 0) (floor k replies marks)
