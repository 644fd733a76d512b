-- What happened in a session, from its mount on: commands with their replies and marks. It is described in docs/CRASHES.md.
use Rattle.std.specs.Prelude.{◌≡◌, ℕ, List, [], ◌∷◌, slice_get, Some}
use Rattle.lang_tree.specs.declared.command.Cmd.{Cmd}
use Rattle.lang_tree.specs.declared.command.Refusal.TheVariants.{DiskFault}
use Rattle.lang_tree.specs.declared.command.Reply.{Reply}
use Rattle.lang_tree.specs.declared.command.Reply.TheVariants.{Refused}
use Rattle.lang_tree.specs.Points.{after_reply}
use Rattle.lang_tree.specs.Step.{Session}

-- the session after commands that were answered so
abbrev pub session_after : Session → List Cmd → List Reply → Session
session_after s [] replies = s
session_after s (cmd ∷ cmds) [] = s
session_after s (cmd ∷ cmds) (reply ∷ replies) = session_after (after_reply s cmd reply) cmds replies

-- the last of these marks, or the moment before them where there is none
abbrev pub last_mark : ℕ → List ℕ → ℕ
last_mark begun [] = begun
last_mark begun (mark ∷ marks) = last_mark mark marks

-- no command was refused by a fault of the disk
abbrev pub HasNoFault : List Reply → Type 0
HasNoFault replies = (i : ℕ) → slice_get replies i ≡ Some (Refused DiskFault) → ⊥
