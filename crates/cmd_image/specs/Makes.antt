-- What comes of making the image of a formatted disk under a name: what is under it, what becomes of the bay and of the disk that it made, and where a fault comes from. It is described in docs/FORMATTING.md.
use Rattle.std.specs.Prelude.{◌≡◌, ◌⊎◌, ℕ, ◌+◌, ◌<◌, ◌≤◌, Bool, IsTrue, List, [], replicate, Result, Ok, Err, OnOk}
use Rattle.base_types.specs.Seal.{Blocks}
use Rattle.disk_contract.specs.declared.bay.BayFault.{BayFault}
use Rattle.disk_contract.specs.declared.bay.BayFault.TheVariants as bay
use Rattle.disk_contract.specs.Bay.{BayState, Makes, Closes}
use Rattle.disk_contract.specs.Disk.{State}
use Rattle.layout_geometry.specs.Geometry.{Geometry, data_start}
use Rattle.layout_journal.specs.Formatted.{formatted}
use Rattle.lang_tree.specs.Step.{start}
use Rattle.crash_stands.specs.Bounds.{bounds_of}
use Rattle.engine_store.specs.declared.formatting.MkfsRefusal.{MkfsRefusal}
use Rattle.engine_store.specs.declared.formatting.MkfsRefusal.TheVariants as mkfs
use Rattle.engine_store.specs.Formatting.{AddsFormatting, MkfsSpends, WritesBelow}
use Rattle.cmd_session.specs.Images.{StandsMounted}
use Rattle.cmd_image.specs.Shows.{CountsFault, FailedByManner}
use Rattle.cmd_image.specs.declared.make_refusal.MakeRefusal.{MakeRefusal}
use Rattle.cmd_image.specs.declared.make_refusal.MakeRefusal.TheVariants.{Fault, NoMemory}

-- The image.

-- An image has as many blocks as the geometry says, and they are those of the formatted disk; its data blocks are zeros. It can be mounted, and stands for the root alone.
pub record IsFormattedImage (g : Geometry) (n : ℕ) (at : Blocks) : Type 0 where
  pub size : n ≡ g.n
  pub blocks : (b : ℕ) → b < n → at b ≡ formatted g b
  pub zeros : (b : ℕ) → data_start g ≤ b → b < n → at b ≡ replicate 1024 0
  pub stands : StandsMounted n at (start (bounds_of g)).tree

-- The refusals.

-- the refusal for a call of the bay
abbrev pub make_refusal_of_bay : BayFault → MakeRefusal
make_refusal_of_bay bay.Fault = Fault
make_refusal_of_bay bay.NoMemory = NoMemory

-- the refusal for a formatting
abbrev pub of_mkfs : MkfsRefusal → MakeRefusal
of_mkfs mkfs.DiskFault = Fault
of_mkfs mkfs.NoMemory = NoMemory

-- the answer where the formatting and the disk's return were answered so: a refusal of the formatting counts first
abbrev pub make_answer_of : Result (Unit {0}) MkfsRefusal → Result (Unit {0}) BayFault → Result (Unit {0}) MakeRefusal
make_answer_of (Ok x) (Ok y) = Ok y
make_answer_of (Ok x) (Err fault) = Err (make_refusal_of_bay fault)
make_answer_of (Err why) back = Err (of_mkfs why)

-- The bay.

-- The bay made no disk under the name, and that is the answer.
pub record MakesNone (tells : Bool) (name : List ℕ) (g : Geometry) (result : Result (Unit {0}) MakeRefusal) (old new : BayState) : Type 0 where
  pub fault : BayFault
  pub makes : Makes tells (λ (d : State). d) name g.n (Err fault) old new
  pub answer : result ≡ Err (make_refusal_of_bay fault)

-- A disk of zeros was made under the name, and the same disk was handed back under it, with no mark. What a formatting writes and spends came between, and nothing else; `written` is what it answered, and `back` what the bay did.
pub record MakeHandsBack (tells : Bool) (name : List ℕ) (g : Geometry) (result : Result (Unit {0}) MakeRefusal) (old new : BayState) : Type 0 where
  pub first : State
  pub last : State
  pub between : BayState
  pub written : Result (Unit {0}) MkfsRefusal
  pub back : Result (Unit {0}) BayFault
  pub makes : Makes tells (λ (d : State). d) name g.n (Ok first) old between
  pub adds : IsTrue tells → OnOk written (AddsFormatting g first.log last.log)
  pub below : IsTrue tells → WritesBelow (data_start g) first.log last.log
  pub spends : MkfsSpends written (data_start g + 1) first last
  pub closes : Closes tells name last [] back between new
  pub answer : result ≡ make_answer_of written back

-- what becomes of the bay: it made no disk, or one that went back
abbrev pub MakeLeavesBay : Bool → List ℕ → Geometry → Result (Unit {0}) MakeRefusal → BayState → BayState → Type 0
MakeLeavesBay tells name g result old new = MakesNone tells name g result old new ⊎ MakeHandsBack tells name g result old new

-- a fault is answered only where one was counted, and with any other answer no call of the disk failed
abbrev pub HasMakeCause : {T : Type 0} → Result T MakeRefusal → BayState → BayState → Type 0
HasMakeCause (Ok x) old new = new.disk_faults ≡ old.disk_faults
HasMakeCause (Err Fault) old new = CountsFault old new
HasMakeCause (Err NoMemory) old new = new.disk_faults ≡ old.disk_faults

-- what a fault comes of, where the bay tells: calls of the bay may fail; or a disk was made under the name and handed back, and a call of it had failed as its manner lets it
abbrev pub HasMakeReason : Bool → List ℕ → Geometry → Result (Unit {0}) MakeRefusal → BayState → BayState → Type 0
HasMakeReason tells name g result old new = IsTrue old.may_fail ⊎ ((b : MakeHandsBack tells name g result old new) × FailedByManner b.last)
