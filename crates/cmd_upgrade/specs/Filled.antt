-- What comes of the new disk on the way of an upgrade, where the tree of the image is known. Only private contracts speak of it.
use Rattle.std.specs.Prelude.{◌≡◌, ◌⊎◌, Bool, true, IsTrue, List, ℕ, [], Result, Ok, Err, OnOk, IfErr}
use Rattle.disk_contract.specs.declared.bay.BayFault.{BayFault}
use Rattle.disk_contract.specs.Bay.{BayState, Closes, Opens, has_faults}
use Rattle.disk_contract.specs.Disk as disk
use Rattle.layout_geometry.specs.Geometry.{Geometry}
use Rattle.lang_tree.specs.Tree.{Tree}
use Rattle.engine_blocks.specs.State.{State}
use Rattle.cmd_image.specs.declared.make_refusal.MakeRefusal.{MakeRefusal}
use Rattle.cmd_image.specs.Makes.{IsFormattedImage, MakeLeavesBay}
use Rattle.cmd_image.specs.Shows.{HasImage}
use Rattle.cmd_upgrade.specs.declared.refusal.UpgradeRefusal.{UpgradeRefusal}
use Rattle.cmd_upgrade.specs.declared.refusal.UpgradeRefusal.TheVariants.{Fault, NoRoom}
use Rattle.cmd_upgrade.specs.Lacks.{LacksRoom, UsesNumbersUp}
use Rattle.cmd_upgrade.specs.Looked.{IsFailing, IsStop, StopsFor}
use Rattle.cmd_upgrade.specs.Refusals.{answer_of, of_bay, of_make}
use Rattle.cmd_upgrade.specs.Upgrades.{HoldsTree, TakesTree}

-- The disk was mounted and filled, or not; `s` are the blocks of the image afterwards. Where all was done, each image of its last moment stands for the tree; else a call of the disk failed, one of the two refused a command, or memory ran out.
pub record FillsNew (tells : Bool) (g : Geometry) (t : Tree) (s : State) (begun ended : disk.State) (filled : Result (Unit {0}) UpgradeRefusal) : Type 0 where
  pub blocks : ended.blocks ≡ begun.blocks
  pub base : IsTrue tells → ended.base ≡ begun.base
  pub manner : ended.manner ≡ begun.manner
  pub holds : IsTrue tells → OnOk filled (HoldsTree t ended)
  pub which : IfErr filled IsStop
  pub fails : filled ≡ Err Fault → (IsTrue tells → IsFailing s) ⊎ ((has_faults ended ≡ true) ⊎ (IsTrue tells → UsesNumbersUp t ⊎ LacksRoom g t))

-- The disk under the new name, which was made, wasn't handed out again; or it was, and it was filled and handed back.
pub record OpensNoNew (tells : Bool) (other : List ℕ) (answer : Result (Unit {0}) UpgradeRefusal) (old new : BayState) : Type 0 where
  pub fault : BayFault
  pub opens : Opens tells (λ (d : disk.State). d) other (Err fault) old new
  pub is : answer ≡ Err (of_bay fault)

pub record FillsAndCloses (tells : Bool) (other : List ℕ) (g : Geometry) (t : Tree) (s : State) (answer : Result (Unit {0}) UpgradeRefusal) (old new : BayState) : Type 0 where
  pub opened : BayState
  pub begun : disk.State
  pub ended : disk.State
  pub filled : Result (Unit {0}) UpgradeRefusal
  pub back : Result (Unit {0}) BayFault
  pub opens : Opens tells (λ (d : disk.State). d) other (Ok begun) old opened
  pub fills : FillsNew tells g t s begun ended filled
  pub closes : Closes tells other ended [] back opened new
  pub is : answer ≡ answer_of filled back

abbrev pub MakesTree : Bool → List ℕ → Geometry → Tree → State → Result (Unit {0}) UpgradeRefusal → BayState → BayState → Type 0
MakesTree tells other g t s answer old new = OpensNoNew tells other answer old new ⊎ FillsAndCloses tells other g t s answer old new

-- The tree was counted, and the new disk not made.
pub record StopsBefore (tells : Bool) (g : Geometry) (t : Tree) (s : State) (answer : Result (Unit {0}) UpgradeRefusal) (old new : BayState) : Type 0 where
  pub same : new ≡ old
  pub why : UpgradeRefusal
  pub is : answer ≡ Err why
  pub which : (why ≡ NoRoom) ⊎ IsStop why
  pub room : IsTrue tells → why ≡ NoRoom → ¬ TakesTree g t
  pub refused : IsTrue tells → StopsFor s why

-- The new disk was to be made, which takes the tree; it was refused, or made and then filled, or not opened.
pub record RefusesMaking (tells : Bool) (other : List ℕ) (g : Geometry) (t : Tree) (answer : Result (Unit {0}) UpgradeRefusal) (old new : BayState) : Type 0 where
  pub why : MakeRefusal
  pub takes : IsTrue tells → TakesTree g t
  pub makes : MakeLeavesBay tells other g (Err why) old new
  pub is : answer ≡ Err (of_make why)

pub record MakesAndFills (tells : Bool) (other : List ℕ) (g : Geometry) (t : Tree) (s : State) (answer : Result (Unit {0}) UpgradeRefusal) (old new : BayState) : Type 0 where
  pub made : BayState
  pub takes : IsTrue tells → TakesTree g t
  pub makes : MakeLeavesBay tells other g (Ok tt) old made
  pub image : IsTrue tells → HasImage (made.kept other) (IsFormattedImage g)
  pub tree : MakesTree tells other g t s answer made new

-- what comes of the new disk, where the tree of the image is this one and its blocks these afterwards
abbrev pub ComesOfLooked : Bool → List ℕ → Geometry → Tree → State → Result (Unit {0}) UpgradeRefusal → BayState → BayState → Type 0
ComesOfLooked tells other g t s answer old new = StopsBefore tells g t s answer old new ⊎ (RefusesMaking tells other g t answer old new ⊎ MakesAndFills tells other g t s answer old new)
