-- What the program does where its words ask to run the script that is its input on an image. It is described in docs/PROMISES.md.
use Rattle.std.specs.Prelude.{◌≡◌, ℕ, Bool, IsTrue, List, Option, Result, Ok, Err}
use Rattle.cmd_image.specs.declared.ending.Ending.{Ending}
use Rattle.cmd_image.specs.declared.ending.Ending.TheVariants as script
use Rattle.cmd_image.specs.declared.ending.RunRefusal.{RunRefusal}
use Rattle.cmd_image.specs.declared.ending.RunRefusal.TheVariants as run
use Rattle.cmd_image.specs.Runs.{ComesOf, CountsFaults, HasRunCause, HasRunReason, Streams}
use Rattle.cmd_program.specs.Endings.{Met, EndsBehind, EndsSilent, Tells, disk_line, damaged_line, source_line, spent_line, long_line}
use Rattle.cmd_program.specs.declared.status.Status.{Status}
use Rattle.cmd_program.specs.declared.status.Status.TheVariants.{Done, NoMemory, DiskFault, Damaged, SourceFault, SinkFault, Spent, LongInput}

-- how the program ends behind a script that was answered so: with the status of the answer, behind its last line where it has one
abbrev pub EndsScript : Result Ending RunRefusal → Status → Option (List ℕ) → Option (List ℕ) → Type 0
EndsScript (Ok script.End) = EndsSilent Done
EndsScript (Ok script.SourceFault) = EndsBehind SourceFault source_line
EndsScript (Ok script.LongInput) = EndsBehind LongInput long_line
EndsScript (Err run.Fault) = EndsBehind DiskFault disk_line
EndsScript (Err (run.Damaged damage)) = EndsBehind (Damaged damage) damaged_line
EndsScript (Err run.Spent) = EndsBehind Spent spent_line
EndsScript (Err run.SinkFault) = EndsSilent SinkFault
EndsScript (Err run.NoMemory) = EndsSilent NoMemory

-- The same as EndsScript, with its cause: where the sink failed as the line was told its count rose. Only private contracts speak of it.
abbrev pub TellsScript : Result Ending RunRefusal → Status → Option (List ℕ) → Option (List ℕ) → ℕ → ℕ → Type 0
TellsScript (Ok script.End) result taken taken_now sink sink_now = EndsSilent Done result taken taken_now
TellsScript (Ok script.SourceFault) result taken taken_now sink sink_now = Tells SourceFault result source_line taken taken_now sink sink_now
TellsScript (Ok script.LongInput) result taken taken_now sink sink_now = Tells LongInput result long_line taken taken_now sink sink_now
TellsScript (Err run.Fault) result taken taken_now sink sink_now = Tells DiskFault result disk_line taken taken_now sink sink_now
TellsScript (Err (run.Damaged damage)) result taken taken_now sink sink_now = Tells (Damaged damage) result damaged_line taken taken_now sink sink_now
TellsScript (Err run.Spent) result taken taken_now sink sink_now = Tells Spent result spent_line taken taken_now sink sink_now
TellsScript (Err run.SinkFault) result taken taken_now sink sink_now = EndsSilent SinkFault result taken taken_now
TellsScript (Err run.NoMemory) result taken taken_now sink sink_now = EndsSilent NoMemory result taken taken_now

-- input and output as they are: what is left of the one, what the other took, and their counts of faults
abbrev pub streams : Option (List ℕ) → ℕ → Option (List ℕ) → ℕ → Streams
streams left source taken sink = record { left = left; source_faults = source; taken = taken; sink_faults = sink }

-- The script was run on the image under the name, with this answer; then the program ended with this status. Which commands were run, how each was answered, what the output took and what became of the disk is as `cmd_image` says it.
pub record RunsTo (tells : Bool) (image : List ℕ) (status : Status) (m : Met) : Type 0 where
  pub answer : Result Ending RunRefusal
  -- what the output has behind the replies, and its count of faults then
  pub between : Option (List ℕ)
  pub sink_between : ℕ
  pub comes : ComesOf tells image answer m.bay m.bay_now (streams m.left m.source m.taken m.sink) (streams m.left_now m.source_now between sink_between)
  pub counts : CountsFaults answer (streams m.left m.source m.taken m.sink) (streams m.left_now m.source_now between sink_between)
  pub cause : HasRunCause answer m.bay m.bay_now
  pub reason : IsTrue tells → answer ≡ Err run.Fault → HasRunReason tells image answer m.bay m.bay_now (streams m.left m.source m.taken m.sink) (streams m.left_now m.source_now between sink_between)
  pub ends : EndsScript answer status between m.taken_now
