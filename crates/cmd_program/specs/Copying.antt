-- What the program does where its words ask that an image is copied to another name. It is described in docs/PROMISES.md.
use Rattle.std.specs.Prelude.{◌≡◌, ℕ, ◌⊎◌, Bool, IsTrue, List, Result, Err, OnOk}
use Rattle.disk_contract.specs.Bay.{SameImage}
use Rattle.cmd_image.specs.declared.make_refusal.MakeRefusal.{MakeRefusal}
use Rattle.cmd_image.specs.declared.make_refusal.MakeRefusal.TheVariants.{Fault}
use Rattle.cmd_image.specs.Makes.{HasMakeCause}
use Rattle.cmd_mirror.specs.Copies.{HasPart, HaveOneImage}
use Rattle.cmd_mirror.specs.Returns.{CopyLeavesBay, HasCopyReason, SameBeside}
use Rattle.cmd_program.specs.Endings.{Met}
use Rattle.cmd_program.specs.Making.{EndsMaking}
use Rattle.cmd_program.specs.declared.status.Status.{Status}

-- The image under the one name was to be copied to the other name, with this answer; then the run ended with this status. Where the bay tells, the copy has the image, with any other answer the other name has what it had, or a part of the copy, and what is under each other name, that of the image among them, is as it was.
pub record CopiesTo (tells : Bool) (image other : List ℕ) (status : Status) (m : Met) : Type 0 where
  pub answer : Result (Unit {0}) MakeRefusal
  pub copied : IsTrue tells → OnOk answer (HaveOneImage (m.bay.kept image) (m.bay_now.kept other))
  pub part : IsTrue tells → SameImage other m.bay m.bay_now ⊎ HasPart (m.bay.kept image) (m.bay_now.kept other)
  pub kept : IsTrue tells → SameImage image m.bay m.bay_now
  pub others : IsTrue tells → SameBeside image other m.bay m.bay_now
  pub back : CopyLeavesBay tells image other answer m.bay m.bay_now
  pub cause : HasMakeCause answer m.bay m.bay_now
  pub reason : IsTrue tells → answer ≡ Err Fault → HasCopyReason tells image other answer m.bay m.bay_now
  pub ends : EndsMaking answer status m.taken m.taken_now
