-- A run that ends at once: how commands are answered where the disk fails at the next of them, or has failed before, with no event more; and what is then said of the run. It is described in docs/CRASHES.md.
use Rattle.std.specs.Prelude.{◌≡◌, ℕ, Bool, true, false, if◌then◌else◌, List, [], ◌∷◌, length}
use Rattle.base_types.specs.Seal.{Blocks}
use Rattle.disk_contract.specs.declared.event.Event.{Event}
use Rattle.layout_geometry.specs.Geometry.{Geometry}
use Rattle.lang_tree.specs.declared.command.Cmd.{Cmd}
use Rattle.lang_tree.specs.declared.command.Cmd.TheVariants.{Bad}
use Rattle.lang_tree.specs.declared.command.Refusal.TheVariants.{DiskFault, Stopped}
use Rattle.lang_tree.specs.declared.command.Reply.{Reply}
use Rattle.lang_tree.specs.declared.command.Reply.TheVariants.{Bad as NotUnderstood, Refused}
use Rattle.lang_tree.specs.Run.{Run, StopsAfterFault, is_of_disk}
use Rattle.lang_tree.specs.Step.{session_on}
use Rattle.lang_tree.specs.Tree.{Tree}
use Rattle.crash_stands.specs.Bounds.{bounds_of}
use Rattle.cmd_trace.specs.Trace.{Ascend}
use Rattle.cmd_session.specs.Crashes.{LeavesPoints}
use Rattle.cmd_session.specs.Histories.{session_after}
use Rattle.cmd_session.specs.Issued.{IssuesLast}

-- whether the line is no command
abbrev pub is_none : Cmd → Bool
is_none Bad = true
is_none _ = false

-- the session is over after this command, if it was over before or the disk fails now
abbrev pub over_after : Bool → Cmd → Bool
over_after over cmd = if is_none cmd then over else true

-- how it is answered: a line that is no command, as such; else the session is over, or the disk fails
abbrev pub ending_reply : Bool → Cmd → Reply
ending_reply over cmd = if is_none cmd then NotUnderstood else Refused (if over then Stopped else DiskFault)

abbrev pub ending_replies : Bool → List Cmd → List Reply
ending_replies over [] = []
ending_replies over (cmd ∷ cmds) = ending_reply over cmd ∷ ending_replies (over_after over cmd) cmds

-- there were so many events at each of their marks
abbrev pub ending_marks : ℕ → List Cmd → List ℕ
ending_marks moment [] = []
ending_marks moment (cmd ∷ cmds) = moment ∷ ending_marks moment cmds

-- What whole runs come to, as far as it can be told without the blocks: each command is answered as the tree answers it or for a reason of the disk, crashes leave points, and all that was issued is the last one.
pub record HasRun (g : Geometry) (t : Tree) (base : Blocks) (log : List Event) (mounted : ℕ) (cmds : List Cmd) (replies : List Reply) (marks : List ℕ) : Type 0 where
  pub run : Run is_of_disk (session_on (bounds_of g) t) cmds replies (session_after (session_on (bounds_of g) t) cmds replies)
  pub stops : StopsAfterFault cmds replies
  pub answered : length cmds ≡ length replies
  pub marked : length marks ≡ length replies
  pub ascend : Ascend mounted marks (length log)
  pub crashes : LeavesPoints g.n base (session_on (bounds_of g) t) log mounted cmds replies marks
  pub issued : IssuesLast g.n base (session_on (bounds_of g) t) log mounted cmds replies marks
