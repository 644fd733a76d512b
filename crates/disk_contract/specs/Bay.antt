-- What is known of a bay of disks, and what each of its calls does to that.
use Rattle.std.specs.Prelude.{◌≡◌, ◌≢◌, ◌⊎◌, ℕ, ◌<◌, ◌≤◌, ◌^◌, ◌-◌, ⊤, Bool, IsTrue, nat_lt, ◌||◌, if◌then◌else◌, List, [], length, Option, Some, None, option_map, Result, Ok, Err, replicate, IfOk, OnOk, OnErr, is_ok}
use Rattle.base_types.specs.Seal.{Blocks, blocks_of}
use Rattle.disk_contract.specs.declared.event.Event.{Event}
use Rattle.disk_contract.specs.declared.bay.Mark.{Mark}
use Rattle.disk_contract.specs.declared.bay.BayFault.{BayFault}
use Rattle.disk_contract.specs.declared.bay.BayFault.TheVariants.{Fault, NoMemory}
use Rattle.disk_contract.specs.Cell.{accepted}
use Rattle.base_types.specs.Counts.{next_count}
use Rattle.disk_contract.specs.Disk.{State}
use Rattle.disk_contract.specs.Manner.{Manner}
use Rattle.disk_contract.specs.Lawful.{IsBlock, IsLogOf}

-- what is under one name: the image that its next disk begins with; and of the disk that was handed back last its base, log and counts of faults, with the marks that came along
pub record Kept : Type 0 where
  pub image : List (List ℕ)
  pub base : Blocks
  pub log : List Event
  pub read_faults : ℕ
  pub faults : ℕ
  pub marks : List Mark

-- a bay: its count of failed calls, of disks that were handed back with faults of their own, of disks handed out, of disks taken back; whether a call of it may fail of itself, how the disks behave that it hands out under each name, and what is under each name; where it doesn't tell, the last three say nothing
pub record BayState : Type 0 where
  pub faults : ℕ
  pub disk_faults : ℕ
  pub handed : ℕ
  pub closed : ℕ
  pub may_fail : Bool
  pub manner : List ℕ → Manner
  pub kept : List ℕ → Option Kept

-- what no call changes: whether calls may fail, and how the disks behave
pub record SameBay (old new : BayState) : Type 0 where
  pub may_fail : new.may_fail ≡ old.may_fail
  pub manner : (name : List ℕ) → new.manner name ≡ old.manner name

-- what is kept is sound: each block of the image and of the base has the bytes of a block, and the log is one of a disk of so many blocks
pub record IsSoundKept (kept : Kept) : Type 0 where
  pub image : (b : ℕ) → b < length kept.image → IsBlock (blocks_of kept.image b)
  pub base : (b : ℕ) → b < length kept.image → IsBlock (kept.base b)
  pub log : IsLogOf (length kept.image) kept.log

-- so many blocks of zeros
abbrev pub zero_blocks : ℕ → List (List ℕ)
zero_blocks n = replicate n (replicate 1024 0)

-- a name that has this image, and no disk was handed back under it yet
abbrev pub fresh : List (List ℕ) → Kept
fresh image = record { image = image; base = blocks_of image; log = []; read_faults = 0; faults = 0; marks = [] }

-- the image that is under a name
abbrev pub image_of : Option Kept → Option (List (List ℕ))
image_of kept = option_map (λ k. k.image) kept

-- whether a call of the disk failed
abbrev pub has_faults : State → Bool
has_faults disk = nat_lt 0 disk.read_faults || nat_lt 0 disk.faults

-- a disk that begins with this image, and no event yet
pub record Begins (image : List (List ℕ)) (disk : State) : Type 0 where
  pub blocks : disk.blocks ≡ length image
  pub base : disk.base ≡ blocks_of image
  pub log : disk.log ≡ []

-- a disk whose counts are all 0
pub record HasNoCounts (disk : State) : Type 0 where
  pub faults : disk.faults ≡ 0
  pub read_faults : disk.read_faults ≡ 0
  pub waits : disk.waits ≡ 0
  pub polls : disk.polls ≡ 0

-- what must hold where a call failed by a fault; out of memory asks for nothing
abbrev pub OnFault : {T : Type 0} → Result T BayFault → Type 0 → Type 0
OnFault (Ok x) P = ⊤
OnFault (Err Fault) P = P
OnFault (Err NoMemory) P = ⊤

-- the count of faults never falls, and a call fails by a fault only where it rose, or is at its last value
abbrev pub HasBayCause : {T : Type 0} → Result T BayFault → ℕ → ℕ → Type 0
HasBayCause result before now = (before ≤ now) × OnFault result ((before < now) ⊎ (now ≡ 2 ^ 64 - 1))

-- a count of the calls that were answered Ok
abbrev pub counted_ok : {T E : Type 0} → Result T E → ℕ → ℕ
counted_ok result n = if is_ok result then next_count n else n

-- what is under each name but this one is as it was
abbrev pub SameElsewhere : List ℕ → BayState → BayState → Type 0
SameElsewhere name old new = (other : List ℕ) → other ≢ name → new.kept other ≡ old.kept other

-- the image under this name is as it was
abbrev pub SameImage : List ℕ → BayState → BayState → Type 0
SameImage name old new = image_of (new.kept name) ≡ image_of (old.kept name)

-- there is an image of so many blocks
abbrev pub HasBlocks : ℕ → Option Kept → Type 0
HasBlocks n None = ⊥
HasBlocks n (Some kept) = length kept.image ≡ n

-- a disk that begins with the image under a name, and there is one
abbrev pub BeginsWith : Option Kept → State → Type 0
BeginsWith None disk = ⊥
BeginsWith (Some kept) disk = Begins kept.image disk

-- `make`: the name has so many blocks of zeros in place of what it had, and the disk begins with them and behaves as the bay says; where the call fails, the image stays; it is a fault only where the bay's calls may fail
pub record Makes {D : Type 0} (tells : Bool) (state : D → State) (name : List ℕ) (blocks : ℕ) (result : Result D BayFault) (old new : BayState) : Type 0 where
  pub size : IfOk result (λ disk. (state disk).blocks ≡ blocks)
  pub counts : IfOk result (λ disk. HasNoCounts (state disk))
  pub disk : IsTrue tells → IfOk result (λ disk. Begins (zero_blocks blocks) (state disk))
  pub manner : IsTrue tells → IfOk result (λ disk. (state disk).manner ≡ old.manner name)
  pub kept : IsTrue tells → OnOk result (new.kept name ≡ Some (fresh (zero_blocks blocks)))
  pub image : IsTrue tells → OnErr result (SameImage name old new)
  pub others : IsTrue tells → SameElsewhere name old new
  pub cause : HasBayCause result old.faults new.faults
  pub fails : IsTrue tells → OnFault result (IsTrue old.may_fail)
  pub same : SameBay old new
  pub disk_faults : new.disk_faults ≡ old.disk_faults
  pub handed : new.handed ≡ counted_ok result old.handed
  pub closed : new.closed ≡ old.closed

-- `open`: the disk begins with the image that is under the name and behaves as the bay says, and what is kept stays; it is a fault only where the bay's calls may fail, or nothing is under the name
pub record Opens {D : Type 0} (tells : Bool) (state : D → State) (name : List ℕ) (result : Result D BayFault) (old new : BayState) : Type 0 where
  pub counts : IfOk result (λ disk. HasNoCounts (state disk))
  pub disk : IsTrue tells → IfOk result (λ disk. BeginsWith (old.kept name) (state disk))
  pub manner : IsTrue tells → IfOk result (λ disk. (state disk).manner ≡ old.manner name)
  pub kept : IsTrue tells → (each : List ℕ) → new.kept each ≡ old.kept each
  pub cause : HasBayCause result old.faults new.faults
  pub fails : IsTrue tells → OnFault result (IsTrue old.may_fail ⊎ (old.kept name ≡ None))
  pub same : SameBay old new
  pub disk_faults : new.disk_faults ≡ old.disk_faults
  pub handed : new.handed ≡ counted_ok result old.handed
  pub closed : new.closed ≡ old.closed

-- an image that has of each block of the disk the last accepted bytes, or else those of the base
pub record IsLeftBy (disk : State) (image : List (List ℕ)) : Type 0 where
  pub length : length image ≡ disk.blocks
  pub each : (b : ℕ) → b < disk.blocks → blocks_of image b ≡ accepted disk.base disk.log b

-- what is under a name after a disk was handed back under it with these marks along
pub record IsKeptOf (disk : State) (along : List Mark) (kept : Kept) : Type 0 where
  pub image : IsLeftBy disk kept.image
  pub base : kept.base ≡ disk.base
  pub log : kept.log ≡ disk.log
  pub read_faults : kept.read_faults ≡ disk.read_faults
  pub faults : kept.faults ≡ disk.faults
  pub marks : kept.marks ≡ along

-- a name that is there has what the disk left of it, and one that isn't there stays so
abbrev pub TakesBack : State → List Mark → Option Kept → Option Kept → Type 0
TakesBack disk marks None None = ⊤
TakesBack disk marks None (Some kept) = ⊥
TakesBack disk marks (Some before) None = ⊥
TakesBack disk marks (Some before) (Some kept) = IsKeptOf disk marks kept

-- `close`: the name has what the disk left of it; where the call fails, the image stays; it is a fault only where the bay's calls may fail, or no image of as many blocks is under the name; a disk with faults of its own is counted in either case
pub record Closes (tells : Bool) (name : List ℕ) (disk : State) (marks : List Mark) {T : Type 0} (result : Result T BayFault) (old new : BayState) : Type 0 where
  pub kept : IsTrue tells → OnOk result (TakesBack disk marks (old.kept name) (new.kept name))
  pub image : IsTrue tells → OnErr result (SameImage name old new)
  pub others : IsTrue tells → SameElsewhere name old new
  pub cause : HasBayCause result old.faults new.faults
  pub fails : IsTrue tells → OnFault result (IsTrue old.may_fail ⊎ ¬ HasBlocks disk.blocks (old.kept name))
  pub same : SameBay old new
  pub disk_faults : new.disk_faults ≡ (if has_faults disk then next_count old.disk_faults else old.disk_faults)
  pub handed : new.handed ≡ old.handed
  pub closed : new.closed ≡ counted_ok result old.closed
