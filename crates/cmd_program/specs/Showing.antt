-- What the program does where its words name an image whose tree is to be shown. It is described in docs/PROMISES.md.
use Rattle.std.specs.Prelude.{◌≡◌, ℕ, Bool, true, IsTrue, List, Option, Result, Ok, Err, IfErr, OnOk}
use Rattle.cmd_image.specs.declared.show_refusal.ShowRefusal.{ShowRefusal}
use Rattle.cmd_image.specs.declared.show_refusal.ShowRefusal.TheVariants as show
use Rattle.cmd_image.specs.Shows.{HasFaultReason, HasImage, HasShowCause, LeavesBay, Lists, Refuses, says_nothing}
use Rattle.cmd_program.specs.Endings.{Met, EndsBehind, EndsSilent, disk_line, damaged_line, spent_line}
use Rattle.cmd_program.specs.declared.status.Status.{Status}
use Rattle.cmd_program.specs.declared.status.Status.TheVariants.{Done, NoMemory, DiskFault, Damaged, SinkFault, Spent}

-- how the run ends behind a showing that was answered so: with the status of the answer, behind its last line
abbrev pub EndsShowing : Result (Unit {0}) ShowRefusal → Status → Option (List ℕ) → Option (List ℕ) → Type 0
EndsShowing (Ok x) = EndsSilent Done
EndsShowing (Err show.Fault) = EndsBehind DiskFault disk_line
EndsShowing (Err (show.Damaged damage)) = EndsBehind (Damaged damage) damaged_line
EndsShowing (Err show.Spent) = EndsBehind Spent spent_line
EndsShowing (Err show.SinkFault) = EndsSilent SinkFault
EndsShowing (Err show.NoMemory) = EndsSilent NoMemory

-- The image under the name was shown, with this answer; then the run ended with this status. What the answer says of the image and of the output is known where the bay tells. The disk went back to the bay, and what a crash of it might have left at any moment stands for the same tree, or for none. A fault of the disk comes only of a bay whose calls may fail, or that has nothing under the name, or of a disk that failed as its manner lets it.
pub record ShowsTo (tells : Bool) (image : List ℕ) (status : Status) (m : Met) : Type 0 where
  pub answer : Result (Unit {0}) ShowRefusal
  -- what the output has behind the listing
  pub between : Option (List ℕ)
  pub shown : IsTrue tells → OnOk answer (HasImage (m.bay.kept image) (Lists m.taken between))
  pub refused : IsTrue tells → IfErr answer (Refuses (m.bay.kept image) m.taken between)
  pub silent : says_nothing answer ≡ true → between ≡ m.taken
  pub back : LeavesBay tells image answer m.bay m.bay_now
  pub cause : HasShowCause answer m.bay m.bay_now
  pub reason : IsTrue tells → answer ≡ Err show.Fault → HasFaultReason tells image m.bay m.bay_now
  pub ends : EndsShowing answer status between m.taken_now
