-- What a trace says, and when it may be so. It is described in docs/TRACE.md.
use Rattle.std.specs.Prelude.{◌≡◌, ℕ, ◌<◌, ◌^◌, List, [], ◌∷◌, length}
use Rattle.layout_geometry.specs.Geometry.{Geometry}
use Rattle.disk_contract.specs.declared.event.Event.{Event}
use Rattle.disk_contract.specs.Lawful.{IsLogOf}
use Rattle.lang_tree.specs.declared.command.Cmd.{Cmd}
use Rattle.lang_tree.specs.declared.command.Reply.{Reply}
use Rattle.lang_script.specs.Values.{IsCommand, IsReply}
use Rattle.cmd_trace.specs.Trace.{Ascend, trace_front, trace_text}

-- the geometry, all events, how many of them are the mount's, and the commands with their replies and marks
pub record Contents : Type 0 where
  pub geometry : Geometry
  pub log : List Event
  pub mounted : ℕ
  pub cmds : List Cmd
  pub replies : List Reply
  pub marks : List ℕ

-- each of them is so
abbrev pub Each : {A : Type 0} → (A → Type 0) → List A → Type 0
Each P [] = Unit {0}
Each P (x ∷ xs) = P x × Each P xs

-- The log is one of a disk of the geometry, each command has a reply and a mark, the marks ascend, and all numbers have 64 bits.
pub record AreLawful (c : Contents) : Type 0 where
  pub blocks : c.geometry.n < 2 ^ 64
  pub journal : c.geometry.j < 2 ^ 64
  pub nodes : c.geometry.i < 2 ^ 64
  pub log : IsLogOf c.geometry.n c.log
  pub events : length c.log < 2 ^ 64
  pub cmds : Each IsCommand c.cmds
  pub replies : Each IsReply c.replies
  pub each_answered : length c.cmds ≡ length c.replies
  pub each_marked : length c.marks ≡ length c.replies
  pub ascend : Ascend c.mounted c.marks (length c.log)

-- the text of a trace with these contents, but for its end
abbrev pub front_of : Contents → List ℕ
front_of c = trace_front c.geometry c.log c.mounted c.cmds c.replies c.marks

-- the whole text
abbrev pub text_of : Contents → List ℕ
text_of c = trace_text c.geometry c.log c.mounted c.cmds c.replies c.marks
