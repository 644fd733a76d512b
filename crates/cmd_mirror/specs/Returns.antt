-- What becomes of a bay in which an image was copied: which disks it handed out, that each went back, and where a fault comes from. It is described in docs/MIRROR.md.
use Rattle.std.specs.Prelude.{◌≡◌, ◌≢◌, ◌⊎◌, ℕ, ◌<◌, Bool, true, IsTrue, List, [], Result, Ok, Err, OnOk}
use Rattle.disk_contract.specs.declared.bay.BayFault.{BayFault}
use Rattle.disk_contract.specs.Bay.{BayState, Opens, Makes, Closes, SameImage}
use Rattle.disk_contract.specs.Disk.{State}
use Rattle.cmd_image.specs.declared.make_refusal.MakeRefusal.{MakeRefusal}
use Rattle.cmd_image.specs.declared.make_refusal.MakeRefusal.TheVariants.{Fault}
use Rattle.cmd_image.specs.Makes.{HasMakeCause, make_refusal_of_bay}
use Rattle.cmd_image.specs.Shows.{FailedByManner, MayFailToOpen}
use Rattle.cmd_mirror.specs.declared.copying.CopyFault.{CopyFault}
use Rattle.cmd_mirror.specs.Copies.{CopiesBlocks, HasPart, HaveOneImage, copy_answer_of}

-- what is under each name but these two is as it was
abbrev pub SameBeside : List ℕ → List ℕ → BayState → BayState → Type 0
SameBeside name other old new = (each : List ℕ) → each ≢ name → each ≢ other → new.kept each ≡ old.kept each

-- No disk was handed out, and that is the answer.
pub record CopiesNone (tells : Bool) (name : List ℕ) (result : Result (Unit {0}) MakeRefusal) (old new : BayState) : Type 0 where
  pub fault : BayFault
  pub opens : Opens tells (λ (d : State). d) name (Err fault) old new
  pub answer : result ≡ Err (make_refusal_of_bay fault)

-- A disk was opened on the image, but none was made under the other name, and that is the answer. The first went back with no mark, as it was.
pub record CopiesOne (tells : Bool) (name other : List ℕ) (result : Result (Unit {0}) MakeRefusal) (old new : BayState) : Type 0 where
  pub first : State
  pub opened : BayState
  pub between : BayState
  pub fault : BayFault
  pub back : Result (Unit {0}) BayFault
  pub opens : Opens tells (λ (d : State). d) name (Ok first) old opened
  pub makes : Makes tells (λ (d : State). d) other first.blocks (Err fault) opened between
  pub closes : Closes tells name first [] back between new
  pub answer : result ≡ Err (make_refusal_of_bay fault)

-- A disk was opened on the image, and one of as many blocks of zeros made under the other name. The blocks were copied from the one to the other, and `copied` is what that came to; then both went back with no mark, first the one and then the other.
pub record CopiesBoth (tells : Bool) (name other : List ℕ) (result : Result (Unit {0}) MakeRefusal) (old new : BayState) : Type 0 where
  pub first : State
  pub first_last : State
  pub second : State
  pub second_last : State
  pub opened : BayState
  pub made : BayState
  pub between : BayState
  pub copied : Result (Unit {0}) CopyFault
  pub back_first : Result (Unit {0}) BayFault
  pub back_second : Result (Unit {0}) BayFault
  pub opens : Opens tells (λ (d : State). d) name (Ok first) old opened
  pub makes : Makes tells (λ (d : State). d) other first.blocks (Ok second) opened made
  pub copies : CopiesBlocks tells copied first first_last second second_last
  pub closes_first : Closes tells name first_last [] back_first made between
  pub closes_second : Closes tells other second_last [] back_second between new
  pub answer : result ≡ copy_answer_of copied back_first back_second

-- what becomes of the bay: it handed out no disk, or the first alone, or both, and each that it handed out went back
abbrev pub CopyLeavesBay : Bool → List ℕ → List ℕ → Result (Unit {0}) MakeRefusal → BayState → BayState → Type 0
CopyLeavesBay tells name other result old new = CopiesNone tells name result old new ⊎ (CopiesOne tells name other result old new ⊎ CopiesBoth tells name other result old new)

-- what a fault comes of, where the bay tells: its calls may fail, or nothing is under the name; or both disks went back, and a call of one of them had failed as its manner lets it
abbrev pub HasCopyReason : Bool → List ℕ → List ℕ → Result (Unit {0}) MakeRefusal → BayState → BayState → Type 0
HasCopyReason tells name other result old new = MayFailToOpen name old ⊎ ((b : CopiesBoth tells name other result old new) × (FailedByManner b.first_last ⊎ FailedByManner b.second_last))

-- On the way. Only private contracts speak of it.

-- Both disks went back with no mark, first the one and then the other, behind a copying that came to this.
pub record ClosesBoth (tells : Bool) (name other : List ℕ) (first second : State) (copied : Result (Unit {0}) CopyFault) (result : Result (Unit {0}) MakeRefusal) (old new : BayState) : Type 0 where
  pub between : BayState
  pub back_first : Result (Unit {0}) BayFault
  pub back_second : Result (Unit {0}) BayFault
  pub closes_first : Closes tells name first [] back_first old between
  pub closes_second : Closes tells other second [] back_second between new
  pub answer : result ≡ copy_answer_of copied back_first back_second

-- The blocks were copied from the one disk to the other, and both went back; and a read of the one failed only where its manner lets it.
pub record CopiesOpened (tells : Bool) (name other : List ℕ) (first second : State) (result : Result (Unit {0}) MakeRefusal) (old new : BayState) : Type 0 where
  pub first_last : State
  pub second_last : State
  pub copied : Result (Unit {0}) CopyFault
  pub copies : CopiesBlocks tells copied first first_last second second_last
  pub may_fail : IsTrue tells → 0 < first_last.read_faults → first_last.manner.reads_fail ≡ true
  pub closes : ClosesBoth tells name other first_last second_last copied result old new

-- All that is said of a copying, by its answer.
pub record Copied (tells : Bool) (name other : List ℕ) (result : Result (Unit {0}) MakeRefusal) (old new : BayState) : Type 0 where
  pub copied : IsTrue tells → OnOk result (HaveOneImage (old.kept name) (new.kept other))
  pub part : IsTrue tells → SameImage other old new ⊎ HasPart (old.kept name) (new.kept other)
  pub kept : IsTrue tells → SameImage name old new
  pub others : IsTrue tells → SameBeside name other old new
  pub comes : CopyLeavesBay tells name other result old new
  pub cause : HasMakeCause result old new
  pub reason : IsTrue tells → result ≡ Err Fault → HasCopyReason tells name other result old new
