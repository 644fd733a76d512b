-- What the program does where its words ask to serve the log that an image keeps. It is described in docs/PROMISES.md.
use Rattle.std.specs.Prelude.{◌≡◌, ℕ, Bool, IsTrue, List, Option, Result, Ok, Err}
use Rattle.cmd_image.specs.declared.ending.Ending.{Ending}
use Rattle.cmd_image.specs.declared.ending.RunRefusal.TheVariants.{Fault}
use Rattle.cmd_log.specs.declared.refusal.LogRunRefusal.{LogRunRefusal}
use Rattle.cmd_log.specs.declared.refusal.LogRunRefusal.TheVariants as logs
use Rattle.cmd_log.specs.Logs.{ComesOfLog, CountsLogFaults, HasLogRunCause, HasLogRunReason}
use Rattle.cmd_program.specs.Endings.{Met, EndsBehind, Tells, log_line, room_line}
use Rattle.cmd_program.specs.Scripting.{EndsScript, TellsScript, streams}
use Rattle.cmd_program.specs.declared.status.Status.{Status}
use Rattle.cmd_program.specs.declared.status.Status.TheVariants.{BadLog, NoRoom}

-- how the program ends behind a log that was answered so: as behind a script; or behind the line that there was no room for its directory, or that the image keeps none
abbrev pub EndsServing : Result Ending LogRunRefusal → Status → Option (List ℕ) → Option (List ℕ) → Type 0
EndsServing (Ok ending) = EndsScript (Ok ending)
EndsServing (Err (logs.Run why)) = EndsScript (Err why)
EndsServing (Err (logs.NoRoom why)) = EndsBehind NoRoom room_line
EndsServing (Err logs.BadLog) = EndsBehind BadLog log_line

-- The same as EndsServing, with its cause: where the sink failed as the line was told its count rose. Only private contracts speak of it.
abbrev pub TellsLog : Result Ending LogRunRefusal → Status → Option (List ℕ) → Option (List ℕ) → ℕ → ℕ → Type 0
TellsLog (Ok ending) result taken taken_now sink sink_now = TellsScript (Ok ending) result taken taken_now sink sink_now
TellsLog (Err (logs.Run why)) result taken taken_now sink sink_now = TellsScript (Err why) result taken taken_now sink sink_now
TellsLog (Err (logs.NoRoom why)) result taken taken_now sink sink_now = Tells NoRoom result room_line taken taken_now sink sink_now
TellsLog (Err logs.BadLog) result taken taken_now sink sink_now = Tells BadLog result log_line taken taken_now sink sink_now

-- The log that the image under the name keeps was served, with this answer; then the program ended with this status. Which calls were answered and how, what the output took and what became of the disk is as `cmd_log` says it.
pub record LogsTo (tells : Bool) (image : List ℕ) (status : Status) (m : Met) : Type 0 where
  pub answer : Result Ending LogRunRefusal
  -- what the output has behind the replies, and its count of faults then
  pub between : Option (List ℕ)
  pub sink_between : ℕ
  pub comes : ComesOfLog tells image answer m.bay m.bay_now (streams m.left m.source m.taken m.sink) (streams m.left_now m.source_now between sink_between)
  pub counts : CountsLogFaults answer (streams m.left m.source m.taken m.sink) (streams m.left_now m.source_now between sink_between)
  pub cause : HasLogRunCause tells answer m.bay m.bay_now
  pub reason : IsTrue tells → answer ≡ Err (logs.Run Fault) → HasLogRunReason tells image answer m.bay m.bay_now (streams m.left m.source m.taken m.sink) (streams m.left_now m.source_now between sink_between)
  pub ends : EndsServing answer status between m.taken_now
