-- What a run on two images that ended as it should leaves under their names. It is described in docs/PROMISES.md.
use Rattle.std.specs.Prelude.{◌≡◌, ℕ, ◌<◌, List, ◌∷◌, length, map, Option, Some}
use Rattle.std.specs.Io.KnownBytes.{Appends, Consumes, IsAtEnd}
use Rattle.lang_tree.specs.Tree.{Bounds}
use Rattle.base_types.specs.Seal.{Blocks, blocks_of}
use Rattle.disk_contract.specs.declared.bay.Mark.{Mark}
use Rattle.disk_contract.specs.declared.event.Event.{Event}
use Rattle.disk_contract.specs.Bay.{Kept}
use Rattle.lang_tree.specs.declared.command.Cmd.{Cmd}
use Rattle.lang_tree.specs.declared.command.Reply.{Reply}
use Rattle.lang_lines.specs.Lines.{longest, commands_of}
use Rattle.cmd_session.specs.Crashes.{IsCrashConsistent}
use Rattle.cmd_image.specs.Runs.{reply_lines}
use Rattle.cmd_mirror.specs.Sides.{told_moment}
use Rattle.cmd_program.specs.Endings.{Met}

-- Crashes of a disk leave sync points of these commands and replies by its own marks: the first one tells the end of the mount, and then there is one for each reply. A mark behind a call of the disk that failed tells a moment that never came, so nothing later is promised of the disk.
pub record LeavesByMarks (n : ℕ) (limit : Bounds) (cmds : List Cmd) (replies : List Reply) (base : Blocks) (log : List Event) (marks : List Mark) : Type 0 where
  pub mounted : ℕ
  pub moments : List ℕ
  pub told : map (told_moment (length log)) marks ≡ mounted ∷ moments
  pub consistent : IsCrashConsistent n limit base log mounted cmds replies moments

-- Under a name there was an image, and now there is what a disk left that began with it, whose crashes leave sync points by its own marks.
pub record LeavesPoints (n : ℕ) (limit : Bounds) (cmds : List Cmd) (replies : List Reply) (before now : Option Kept) : Type 0 where
  pub old : Kept
  pub is_old : before ≡ Some old
  pub new : Kept
  pub is_new : now ≡ Some new
  pub began : (b : ℕ) → b < n → new.base b ≡ blocks_of old.image b
  pub leaves : LeavesByMarks n limit cmds replies new.base new.log new.marks

-- The commands of the whole input were answered, and the output took the lines of their replies; and under each of the two names is what a disk left whose crashes leave sync points of these.
pub record LeavesPair (image other : List ℕ) (m : Met) : Type 0 where
  pub seen : List ℕ
  pub read : Consumes m.left m.left_now seen
  pub all : IsAtEnd m.left_now
  pub replies : List Reply
  pub wrote : Appends m.taken m.taken_now (reply_lines replies)
  pub n : ℕ
  pub limit : Bounds
  pub first : LeavesPoints n limit (commands_of longest seen) replies (m.bay.kept image) (m.bay_now.kept image)
  pub second : LeavesPoints n limit (commands_of longest seen) replies (m.bay.kept other) (m.bay_now.kept other)
