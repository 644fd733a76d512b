-- What a recording has written as it ends or stops. The contract of `record_lines` says by it how a recording stops; of the rest only proofs and private contracts speak.
use Rattle.std.specs.Prelude.{ℕ, ◌≤◌, List, Option, Result, Ok, Err}
use Rattle.std.specs.Io.KnownBytes.{Appends}
use Rattle.base_types.specs.Counts.{Rose}
use Rattle.lang_tree.specs.declared.command.Cmd.{Cmd}
use Rattle.lang_script.specs.Values.{IsCommand}
use Rattle.cmd_trace.specs.Contents.{Each}
use Rattle.lang_lines.specs.Lines.{longest, commands_of}
use Rattle.cmd_host.specs.Behaving.{Setting}
use Rattle.cmd_record.specs.Traces.{IsBrokenOff, ServesBy}
use Rattle.cmd_record.specs.declared.recording.Stop.{Stop}
use Rattle.cmd_record.specs.declared.recording.Stop.TheVariants.{NoMemory, SinkFault}

-- The sink took a text that breaks off in the trace of these bytes.
pub record Stopped (set : Setting) (seen : List ℕ) (before after : Option (List ℕ)) : Type 0 where
  pub text : List ℕ
  pub told : Appends before after text
  pub broken : Each IsCommand (commands_of longest seen) → IsBrokenOff set seen text

-- the sink's count never falls, and a stop by the sink comes only where it rose
abbrev pub StopsByCause : {T : Type 0} → ℕ → ℕ → Result T Stop → Type 0
StopsByCause before now (Ok done) = before ≤ now
StopsByCause before now (Err NoMemory) = before ≤ now
StopsByCause before now (Err SinkFault) = (before ≤ now) × Rose before now

-- These commands are answered on a new tree, and the sink took the beginning of the trace that they make.
pub record ServesTo (set : Setting) (cmds : List Cmd) (before after : Option (List ℕ)) : Type 0 where
  pub body : List ℕ
  pub served : Each IsCommand cmds → ServesBy set cmds body
  pub told : Appends before after body
