-- What comes of an upgrade: for which tree the new disk stands, what becomes of the disk on the image, and what becomes of the bay. It is described in docs/UPGRADE.md.
use Rattle.std.specs.Prelude.{◌≡◌, ◌≢◌, ◌⊎◌, ◌↔◌, ℕ, ◌+◌, ◌-◌, ◌*◌, ◌^◌, ◌≤◌, ⊤, Bool, true, IsTrue, List, [], length, Option, Some, Result, Ok, Err, OnOk, IfErr}
use Rattle.std.specs.FinMap.{empty, len}
use Rattle.base_types.specs.Seal.{Blocks, blocks_of}
use Rattle.disk_contract.specs.declared.bay.BayFault.{BayFault}
use Rattle.disk_contract.specs.declared.event.Event.{Event}
use Rattle.disk_contract.specs.Bay.{BayState, Closes, Kept, Opens, has_faults}
use Rattle.disk_contract.specs.Crash.{IsHonest, Window}
use Rattle.disk_contract.specs.Disk.{State, writes_in}
use Rattle.layout_geometry.specs.Geometry.{Geometry, data_start}
use Rattle.lang_tree.specs.Figures.{blocks}
use Rattle.lang_tree.specs.Tree.{Tree}
use Rattle.lang_making.specs.Making.{paths_made}
use Rattle.lang_making.specs.Renumbered.{DifferInNumbers}
use Rattle.crash_stands.specs.Stands.{StandsFor}
use Rattle.engine_mount.specs.Mount.{IsUsedUp}
use Rattle.cmd_session.specs.Images.{HasDamage, StandsForNone, StandsMounted}
use Rattle.cmd_image.specs.declared.make_refusal.MakeRefusal.{MakeRefusal}
use Rattle.cmd_image.specs.Makes.{IsFormattedImage, MakeLeavesBay}
use Rattle.cmd_image.specs.Runs.{HasNumbers}
use Rattle.cmd_image.specs.Shows.{HasImage}
use Rattle.cmd_upgrade.specs.declared.refusal.UpgradeRefusal.{UpgradeRefusal}
use Rattle.cmd_upgrade.specs.declared.refusal.UpgradeRefusal.TheVariants.{Fault, Damaged, Spent, NoRoom, NoMemory}
use Rattle.cmd_upgrade.specs.Lacks.{LacksRoom, UsesNumbersUp}
use Rattle.cmd_upgrade.specs.Refusals.{answer_of, of_bay, of_make}

-- The trees.

-- a disk of this geometry takes the tree: it has as many nodes, and as many data blocks as the tree has in its layout
pub record TakesTree (g : Geometry) (t : Tree) : Type 0 where
  pub nodes : len t.nodes ≤ g.i
  pub blocks : blocks g.layout t ≤ g.n - data_start g

-- The image of a disk of n blocks stands for a tree that differs from this one in the numbers of its nodes alone, and has no snapshots.
pub record StandsAlike (t : Tree) (n : ℕ) (img : Blocks) : Type 0 where
  pub tree : Tree
  pub stands : StandsFor n img tree
  pub alike : DifferInNumbers t tree
  pub alone : tree.snapshots ≡ empty

-- each honest image of the last moment of a disk does so
abbrev pub HoldsTree : Tree → State → Type 0
HoldsTree t d = (img : Blocks) → IsHonest d.blocks d.base d.log img → ∥ StandsAlike t d.blocks img ∥₁

-- the disk began with an image that can be mounted and stands for a tree, and this holds of the tree
abbrev pub OnImage : State → (Tree → Type 0) → Type 0
OnImage first P = (t : Tree) × StandsMounted first.blocks first.base t × P t

-- The disks.

-- each honest image of each moment of a disk that began with these blocks stands for the tree for which they stand, and for none where they stand for none
abbrev pub StandsStill : ℕ → Blocks → List Event → Type 0
StandsStill n base log = Window n base log 0 (λ img. ∥ ((t : Tree) → StandsFor n img t ↔ StandsFor n base t) ∥₁)

-- What an upgrade leaves of the disk on the image: it writes at most as often as a mount does, and each honest image of each moment stands for the tree for which the disk stood as it began, and for none where that stood for none.
pub record IsOnlyMounted (tells : Bool) (first last : State) : Type 0 where
  pub blocks : last.blocks ≡ first.blocks
  pub base : IsTrue tells → last.base ≡ first.base
  pub manner : last.manner ≡ first.manner
  pub written : IsTrue tells → writes_in last.log ≤ first.blocks + 2
  pub crash : IsTrue tells → StandsStill last.blocks last.base last.log

-- so many looks are made at most at the image of a tree: at the names of each directory, of which a disk has no more than nodes, and at each path and the pieces of its bytes
abbrev pub most_looks : Tree → ℕ
most_looks t = 65536 + 16385 * length (paths_made t.names)

-- The numbers of the journal may have been used up by so many looks at the tree, from where they went on at the mount.
pub record LooksUseNumbersUp (first : State) (t : Tree) : Type 0 where
  pub turns : ℕ
  pub numbers : HasNumbers first turns
  pub spent : 2 ^ 63 - 8 ≤ turns + most_looks t * 2 ^ 20

-- a look at the image was refused: a call of its disk failed, or the numbers of its journal were used up
abbrev pub FailsLooks : Bool → State → State → Type 0
FailsLooks tells first last = (has_faults last ≡ true) ⊎ (IsTrue tells → OnImage first (LooksUseNumbersUp first))

-- a command on the new disk was refused: a call of that failed, or the commands that make the tree don't all go there
abbrev pub FailsMaking : Bool → Geometry → State → State → Type 0
FailsMaking tells g first ended = (has_faults ended ≡ true) ⊎ (IsTrue tells → OnImage first (λ t. UsesNumbersUp t ⊎ LacksRoom g t))

-- what a refusal says of the image
abbrev pub SaysOfImage : UpgradeRefusal → ℕ → Blocks → Type 0
SaysOfImage Fault n at = ⊤
SaysOfImage (Damaged damage) n at = HasDamage n at damage × StandsForNone n at
SaysOfImage Spent n at = IsUsedUp n at
SaysOfImage NoRoom n at = ⊥
SaysOfImage NoMemory n at = ⊤

-- The bay, behind the opening of the image and before its return.

-- No file system was opened on the image, and nothing else was done: the answer says what is so of the image, or a call of the disk failed.
pub record OpensNothing (tells : Bool) (first last : State) (answer : Result (Unit {0}) UpgradeRefusal) (old new : BayState) : Type 0 where
  pub same : new ≡ old
  pub why : UpgradeRefusal
  pub is : answer ≡ Err why
  pub fails : why ≡ Fault → has_faults last ≡ true
  pub says : IsTrue tells → SaysOfImage why first.blocks first.base

-- The tree was counted, and the new disk not made: it doesn't take the tree; or a look at the image was refused, or memory ran out.
pub record MakesNothing (tells : Bool) (g : Geometry) (first last : State) (answer : Result (Unit {0}) UpgradeRefusal) (old new : BayState) : Type 0 where
  pub same : new ≡ old
  pub why : UpgradeRefusal
  pub is : answer ≡ Err why
  pub which : (why ≡ NoRoom) ⊎ ((why ≡ Fault) ⊎ (why ≡ NoMemory))
  pub room : IsTrue tells → OnImage first (λ t. why ≡ NoRoom → ¬ TakesTree g t)
  pub fails : why ≡ Fault → FailsLooks tells first last

-- The new disk was to be made, which takes the tree, and wasn't: the answer is the refusal of that.
pub record FailsToMake (tells : Bool) (other : List ℕ) (g : Geometry) (first : State) (answer : Result (Unit {0}) UpgradeRefusal) (old new : BayState) : Type 0 where
  pub why : MakeRefusal
  pub makes : MakeLeavesBay tells other g (Err why) old new
  pub takes : IsTrue tells → OnImage first (TakesTree g)
  pub is : answer ≡ Err (of_make why)

-- The new disk was made, and not handed out again.
pub record FailsToOpen (tells : Bool) (other : List ℕ) (g : Geometry) (first : State) (answer : Result (Unit {0}) UpgradeRefusal) (old new : BayState) : Type 0 where
  pub made : BayState
  pub fault : BayFault
  pub makes : MakeLeavesBay tells other g (Ok tt) old made
  pub takes : IsTrue tells → OnImage first (TakesTree g)
  pub opens : Opens tells (λ (d : State). d) other (Err fault) made new
  pub is : answer ≡ Err (of_bay fault)

-- The new disk was made, which takes the tree, handed out under its name with the image of the formatted disk, and the same disk was handed back under it, with no mark. Where all commands were done and were durable, it holds the tree in each of its images; else a look at the image or a command on the new disk was refused, or memory ran out.
pub record FillsDisk (tells : Bool) (other : List ℕ) (g : Geometry) (first last : State) (answer : Result (Unit {0}) UpgradeRefusal) (old new : BayState) : Type 0 where
  pub made : BayState
  pub opened : BayState
  pub begun : State
  pub ended : State
  pub filled : Result (Unit {0}) UpgradeRefusal
  pub back : Result (Unit {0}) BayFault
  pub makes : MakeLeavesBay tells other g (Ok tt) old made
  pub opens : Opens tells (λ (d : State). d) other (Ok begun) made opened
  pub formatted : IsTrue tells → IsFormattedImage g begun.blocks begun.base
  pub blocks : ended.blocks ≡ begun.blocks
  pub base : IsTrue tells → ended.base ≡ begun.base
  pub manner : ended.manner ≡ begun.manner
  pub holds : IsTrue tells → OnImage first (λ t. TakesTree g t × OnOk filled (HoldsTree t ended))
  pub which : IfErr filled (λ why. (why ≡ Fault) ⊎ (why ≡ NoMemory))
  pub fails : filled ≡ Err Fault → FailsLooks tells first last ⊎ FailsMaking tells g first ended
  pub closes : Closes tells other ended [] back opened new
  pub is : answer ≡ answer_of filled back

-- what came of a disk that was opened on the image: no file system was opened on it; or one was, and the new disk was not made, not to be made, not opened, or filled
abbrev pub ComesOfDisk : Bool → List ℕ → Geometry → State → State → Result (Unit {0}) UpgradeRefusal → BayState → BayState → Type 0
ComesOfDisk tells other g first last answer old new =
    OpensNothing tells first last answer old new
    ⊎ (MakesNothing tells g first last answer old new
    ⊎ (FailsToMake tells other g first answer old new
    ⊎ (FailsToOpen tells other g first answer old new
    ⊎ FillsDisk tells other g first last answer old new)))

-- The whole.

-- No disk was handed out on the image, by a fault that the bay has counted or for want of memory.
pub record OpensNoImage (tells : Bool) (name : List ℕ) (result : Result (Unit {0}) UpgradeRefusal) (old new : BayState) : Type 0 where
  pub fault : BayFault
  pub opens : Opens tells (λ (d : State). d) name (Err fault) old new
  pub answer : result ≡ Err (of_bay fault)

-- A disk was handed out on the image, and the same disk was handed back under its name, with no mark; `answer` is how all between ended, and `back` what the bay answered to its return.
pub record UpgradesImage (tells : Bool) (name other : List ℕ) (g : Geometry) (result : Result (Unit {0}) UpgradeRefusal) (old new : BayState) : Type 0 where
  pub first : State
  pub last : State
  pub opened : BayState
  pub between : BayState
  pub answer : Result (Unit {0}) UpgradeRefusal
  pub back : Result (Unit {0}) BayFault
  pub opens : Opens tells (λ (d : State). d) name (Ok first) old opened
  pub left : IsOnlyMounted tells first last
  pub comes : ComesOfDisk tells other g first last answer opened between
  pub closes : Closes tells name last [] back between new
  pub answered : result ≡ answer_of answer back

-- what comes of an upgrade: no disk was handed out on the image, or one was, which went back
abbrev pub UpgradesTo : Bool → List ℕ → List ℕ → Geometry → Result (Unit {0}) UpgradeRefusal → BayState → BayState → Type 0
UpgradesTo tells name other g result old new = OpensNoImage tells name result old new ⊎ UpgradesImage tells name other g result old new

-- what is under each name but these two is as it was
abbrev pub SameBeside : List ℕ → List ℕ → BayState → BayState → Type 0
SameBeside name other old new = (each : List ℕ) → each ≢ name → each ≢ other → new.kept each ≡ old.kept each

-- There is no room exactly where the image stands for a tree that the new disk doesn't take.
abbrev pub HasRoomCause : Geometry → Result (Unit {0}) UpgradeRefusal → Option Kept → Type 0
HasRoomCause g (Ok x) kept = HasImage kept (λ n at. (t : Tree) × StandsMounted n at t × TakesTree g t)
HasRoomCause g (Err NoRoom) kept = HasImage kept (λ n at. (t : Tree) × StandsMounted n at t × ¬ TakesTree g t)
HasRoomCause g (Err why) kept = ⊤

-- What an upgrade that was answered Ok leaves under the two names, where the bay tells: under the name of the image there was one that stands for a tree, and now what a disk left of which each honest image of each moment stands for that tree; and under the new name what a disk left of which each honest image of the last moment stands for it, with other numbers.
pub record LeavesBoth (name other : List ℕ) (g : Geometry) (old new : BayState) : Type 0 where
  pub before : Kept
  pub was : old.kept name ≡ Some before
  pub tree : Tree
  pub stands : StandsMounted (length before.image) (blocks_of before.image) tree
  pub takes : TakesTree g tree
  pub image : Kept
  pub is_image : new.kept name ≡ Some image
  pub began : image.base ≡ blocks_of before.image
  pub crash : StandsStill (length before.image) image.base image.log
  pub filled : Kept
  pub is_filled : new.kept other ≡ Some filled
  pub size : length filled.image ≡ g.n
  pub holds : (img : Blocks) → IsHonest g.n filled.base filled.log img → ∥ StandsAlike tree g.n img ∥₁
