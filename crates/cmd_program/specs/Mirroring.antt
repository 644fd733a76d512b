-- What the program does where its words ask to run the script that is its input on two images that are kept alike. It is described in docs/PROMISES.md.
use Rattle.std.specs.Prelude.{◌≡◌, ℕ, Bool, IsTrue, List, Option, Result, Ok, Err}
use Rattle.cmd_image.specs.declared.ending.Ending.{Ending}
use Rattle.cmd_image.specs.declared.ending.RunRefusal.TheVariants.{Fault}
use Rattle.cmd_mirror.specs.declared.refusal.MirroredRefusal.{MirroredRefusal}
use Rattle.cmd_mirror.specs.declared.refusal.MirroredRefusal.TheVariants as mirrored
use Rattle.cmd_mirror.specs.Mirrored.{ComesOfBoth, CountsMirrored, HasMirroredCause, HasMirroredReason}
use Rattle.cmd_program.specs.Endings.{Met, EndsBehind, Tells, unlike_line}
use Rattle.cmd_program.specs.Scripting.{EndsScript, TellsScript, streams}
use Rattle.cmd_program.specs.declared.status.Status.{Status}
use Rattle.cmd_program.specs.declared.status.Status.TheVariants.{Unlike}

-- how the program ends behind a script on two images that was answered so: as behind one on one image; or behind the line that the images are unlike
abbrev pub EndsMirrored : Result Ending MirroredRefusal → Status → Option (List ℕ) → Option (List ℕ) → Type 0
EndsMirrored (Ok ending) = EndsScript (Ok ending)
EndsMirrored (Err (mirrored.Run why)) = EndsScript (Err why)
EndsMirrored (Err mirrored.Unlike) = EndsBehind Unlike unlike_line

-- The same as EndsMirrored, with its cause: where the sink failed as the line was told its count rose. Only private contracts speak of it.
abbrev pub TellsMirrored : Result Ending MirroredRefusal → Status → Option (List ℕ) → Option (List ℕ) → ℕ → ℕ → Type 0
TellsMirrored (Ok ending) result taken taken_now sink sink_now = TellsScript (Ok ending) result taken taken_now sink sink_now
TellsMirrored (Err (mirrored.Run why)) result taken taken_now sink sink_now = TellsScript (Err why) result taken taken_now sink sink_now
TellsMirrored (Err mirrored.Unlike) result taken taken_now sink sink_now = Tells Unlike result unlike_line taken taken_now sink sink_now

-- The script was run on the images under the two names, with this answer; then the program ended with this status. Which commands were run, how each was answered, what the output took, and what became of the two disks is as `cmd_mirror` says it.
pub record RunsMirroredTo (tells : Bool) (image other : List ℕ) (status : Status) (m : Met) : Type 0 where
  pub answer : Result Ending MirroredRefusal
  -- what the output has behind the replies, and its count of faults then
  pub between : Option (List ℕ)
  pub sink_between : ℕ
  pub comes : ComesOfBoth tells image other answer m.bay m.bay_now (streams m.left m.source m.taken m.sink) (streams m.left_now m.source_now between sink_between)
  pub counts : CountsMirrored answer (streams m.left m.source m.taken m.sink) (streams m.left_now m.source_now between sink_between)
  pub cause : HasMirroredCause tells image other answer m.bay m.bay_now (streams m.left m.source m.taken m.sink) (streams m.left_now m.source_now between sink_between)
  pub reason : IsTrue tells → answer ≡ Err (mirrored.Run Fault) → HasMirroredReason tells image other answer m.bay m.bay_now
      (streams m.left m.source m.taken m.sink) (streams m.left_now m.source_now between sink_between)
  pub ends : EndsMirrored answer status between m.taken_now
