-- What the program does where its words ask that the image of a formatted disk is made under a name. It is described in docs/PROMISES.md.
use Rattle.std.specs.Prelude.{◌≡◌, ℕ, Bool, IsTrue, List, Option, Result, Ok, Err, OnOk}
use Rattle.disk_contract.specs.Bay.{SameElsewhere}
use Rattle.layout_geometry.specs.Geometry.{Geometry}
use Rattle.cmd_image.specs.declared.make_refusal.MakeRefusal.{MakeRefusal}
use Rattle.cmd_image.specs.declared.make_refusal.MakeRefusal.TheVariants as make
use Rattle.cmd_image.specs.Makes.{HasMakeCause, HasMakeReason, IsFormattedImage, MakeLeavesBay}
use Rattle.cmd_image.specs.Shows.{HasImage}
use Rattle.cmd_program.specs.Endings.{Met, EndsBehind, EndsSilent, disk_line}
use Rattle.cmd_program.specs.declared.status.Status.{Status}
use Rattle.cmd_program.specs.declared.status.Status.TheVariants.{Done, NoMemory, DiskFault}

-- how the run ends behind a making that was answered so: with the status of the answer, behind its last line
abbrev pub EndsMaking : Result (Unit {0}) MakeRefusal → Status → Option (List ℕ) → Option (List ℕ) → Type 0
EndsMaking (Ok x) = EndsSilent Done
EndsMaking (Err make.Fault) = EndsBehind DiskFault disk_line
EndsMaking (Err make.NoMemory) = EndsSilent NoMemory

-- The image of a disk formatted with this geometry was to be made under the name, with this answer; then the run ended with this status. Where the bay tells, a made image is that of the formatted disk, and what is under each other name is as it was.
pub record MakesTo (tells : Bool) (image : List ℕ) (g : Geometry) (status : Status) (m : Met) : Type 0 where
  pub answer : Result (Unit {0}) MakeRefusal
  pub made : IsTrue tells → OnOk answer (HasImage (m.bay_now.kept image) (IsFormattedImage g))
  pub back : MakeLeavesBay tells image g answer m.bay m.bay_now
  pub others : IsTrue tells → SameElsewhere image m.bay m.bay_now
  pub cause : HasMakeCause answer m.bay m.bay_now
  pub reason : IsTrue tells → answer ≡ Err make.Fault → HasMakeReason tells image g answer m.bay m.bay_now
  pub ends : EndsMaking answer status m.taken m.taken_now
