-- What the program writes for the bytes that it read, status by status. It is described in docs/TRACE.md.
use Rattle.std.specs.Prelude.{◌≡◌, ℕ, ◌^◌, ◌⊎◌, List, [], ◌++◌, length}
use Rattle.disk_contract.specs.declared.event.Event.{Event}
use Rattle.disk_contract.specs.Manner.{GoesBy}
use Rattle.layout_journal.specs.Formatted.{formatted}
use Rattle.crash_stands.specs.Bounds.{bounds_of}
use Rattle.crash_stands.specs.Stands.{StandsFor}
use Rattle.cmd_trace.specs.Line.{end_line}
use Rattle.cmd_trace.specs.Contents.{AreLawful, front_of}
use Rattle.lang_tree.specs.declared.command.Cmd.{Cmd}
use Rattle.lang_tree.specs.Step.{start}
use Rattle.cmd_session.specs.Crashes.{IsCrashConsistent}
use Rattle.lang_lines.specs.Lines.{longest, whole_commands}
use Rattle.cmd_host.specs.Behaving.{MountFails, Setting}
use Rattle.cmd_host.specs.Mounts.{MountsAtMost}
use Rattle.cmd_record.specs.Traces.{IsBrokenOff, IsFront, IsTrace, ServesBy, says}
use Rattle.cmd_program.specs.Endings.{disk_line, source_line, long_line}
use Rattle.cmd_program.specs.declared.status.Status.{Status}
use Rattle.cmd_program.specs.declared.status.Status.TheVariants.{Done, NoMemory, DiskFault, SourceFault, SinkFault, LongInput}

-- In what follows, S says of a text that it begins a trace of some commands.

-- The text is the trace of the lines that stand with their line feed in the bytes, without its end, and then this last line.
pub record IsCutShort (S : List Cmd → List ℕ → Type 0) (seen last text : List ℕ) : Type 0 where
  pub body : List ℕ
  pub served : S (whole_commands longest seen) body
  pub is : text ≡ body ++ last

-- The text is that of a mount that the disk failed: the events so far, which are one write at most and its notice, and then the last line. Every crash of it leaves the root alone. The disk went by its manner, which lets the mount fail so.
pub record FailsToMount (set : Setting) (text : List ℕ) : Type 0 where
  pub log : List Event
  pub lawful : AreLawful (says set.shape log (length log) [] [] [])
  pub begins : StandsFor set.shape.n (formatted set.shape) (start (bounds_of set.shape)).tree
  pub consistent : IsCrashConsistent set.shape.n (bounds_of set.shape) (formatted set.shape) log (length log) [] [] []
  pub writes : GoesBy set.manner log
  pub cause : MountFails set.manner log
  pub most : MountsAtMost log
  pub is : text ≡ (front_of (says set.shape log (length log) [] [] []) ++ end_line) ++ disk_line

-- The text is a whole output of a recording that read these bytes: the trace, or the one after a fault of the source, where it failed, or the one of an input that is too long, where these bytes are as many as an input may have.
abbrev pub IsWhole : (List Cmd → List ℕ → Type 0) → Type 0 → List ℕ → List ℕ → Type 0
IsWhole S source_failed seen text =
    IsTrace S seen text
    ⊎ ((source_failed × IsCutShort S seen source_line text)
    ⊎ ((length seen ≡ 2 ^ 30) × IsCutShort S seen long_line text))

-- What a recording on such a disk that ended with this status wrote for the bytes that it read, where the source failed or didn't. Where memory ran out before the mount ended, that is nothing.
abbrev pub Recorded : Setting → Status → Type 0 → List ℕ → List ℕ → Type 0
Recorded set Done source_failed seen text = IsTrace (ServesBy set) seen text
Recorded set DiskFault source_failed seen text = FailsToMount set text
Recorded set SourceFault source_failed seen text = IsCutShort (ServesBy set) seen source_line text
Recorded set LongInput source_failed seen text = IsCutShort (ServesBy set) seen long_line text
Recorded set NoMemory source_failed seen text = (text ≡ []) ⊎ IsBrokenOff set seen text
Recorded set SinkFault source_failed seen text = IsFront (IsWhole (ServesBy set) source_failed seen) text ⊎ (IsBrokenOff set seen text ⊎ IsFront (FailsToMount set) text)
Recorded set _ source_failed seen text = ⊥
