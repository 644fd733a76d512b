-- Why a store wasn't opened, what a refusal says of the disk, and which counts it raises.
use Rattle.std.specs.Prelude.{◌≡◌, ◌⊎◌, ℕ, ◌+◌, ◌<◌, Bool, true, false, List, length, Result, Ok, Err}
use Rattle.base_types.specs.Seal.{Blocks, blocks_of}
use Rattle.disk_contract.specs.Disk.{State}
use Rattle.layout_geometry.specs.Geometry.{Geometry, bitmap_blocks, bitmap_start}
use Rattle.layout_bitmap.specs.Bits.{is_bad_bit}
use Rattle.layout_journal.specs.declared.header.Header.{Header}
use Rattle.layout_journal.specs.Run.{Newest, replayed}
use Rattle.engine_recover.specs.Search.{FoundRun, is_spent}
use Rattle.engine_mount.specs.declared.refusal.MountRefusal.{MountRefusal}
use Rattle.engine_mount.specs.declared.refusal.MountRefusal.TheVariants as mounting
use Rattle.engine_mount.specs.Mount.{FoundDisk, IsFoundOn, IsUsedUp, settled_on}
use Rattle.engine_store.specs.declared.refusal.StoreRefusal.{StoreRefusal}
use Rattle.engine_store.specs.declared.refusal.StoreRefusal.TheVariants.{NoHeader, BadBit, Spent, ReadFault, DiskFault, NoMemory}

-- what a block of the bitmap has once this run is replayed over these blocks
abbrev pub replayed_bitmap : FoundRun → Blocks → Blocks
replayed_bitmap r at k = replayed r.header.geom at r.records (bitmap_start r.header.geom + k)

-- all blocks of the bitmap, as this run leaves them
pub record IsReplayedBitmap (r : FoundRun) (at : Blocks) (bitmap : List (List ℕ)) : Type 0 where
  pub size : length bitmap ≡ bitmap_blocks r.header.geom
  pub each : (k : ℕ) → k < bitmap_blocks r.header.geom → blocks_of bitmap k ≡ replayed_bitmap r at k

-- a bitmap of a disk of n blocks under this geometry, with no wrong bit
pub record IsSoundBitmap (n : ℕ) (g : Geometry) (bitmap : List (List ℕ)) : Type 0 where
  pub blocks : g.n ≡ n
  pub size : length bitmap ≡ bitmap_blocks g
  pub no_bad : (b : ℕ) → is_bad_bit g (blocks_of bitmap) b ≡ false

-- this block is the least whose bit is wrong
pub record IsLeastBad (g : Geometry) (m : Blocks) (b : ℕ) : Type 0 where
  pub bad : is_bad_bit g m b ≡ true
  pub least : (c : ℕ) → c < b → is_bad_bit g m c ≡ false

-- the refusal names the least block whose bit is wrong
abbrev pub NamesBadBit : Geometry → Blocks → StoreRefusal → Type 0
NamesBadBit g m NoHeader = ⊥
NamesBadBit g m (BadBit b) = IsLeastBad g m b
NamesBadBit g m Spent = ⊥
NamesBadBit g m ReadFault = ⊥
NamesBadBit g m DiskFault = ⊥
NamesBadBit g m NoMemory = ⊥

-- That was found on the disk: a newest header, its run and the greatest epoch, and none of their numbers is at its end.
pub record HasNumbersLeft (d : State) (f : FoundDisk) : Type 0 where
  pub is_found : IsFoundOn d f
  pub going : is_spent f.run.header (length f.run.records) ≡ false
  pub epoch : f.epoch < 9223372036854775792

-- The disk may be mounted: it has a newest header, its numbers aren't at their end, and no bit is wrong in the bitmap that its run leaves.
pub record MayBeMounted (d : State) : Type 0 where
  pub found : FoundDisk
  pub left : HasNumbersLeft d found
  pub no_bad : (b : ℕ) → is_bad_bit found.run.header.geom (replayed_bitmap found.run (settled_on d)) b ≡ false

-- The disk has a newest header, its numbers aren't at their end, and this is the least block whose bit is wrong in the bitmap that its run leaves.
pub record HasBadBit (d : State) (b : ℕ) : Type 0 where
  pub found : FoundDisk
  pub left : HasNumbersLeft d found
  pub bad : IsLeastBad found.run.header.geom (replayed_bitmap found.run (settled_on d)) b

-- What a refusal says of the disk; where it comes from what is on the disk, or from want of memory, nothing was written. A write or a wait fails only where the disk may be mounted; a read fails before anything is written, or where the disk may be mounted.
abbrev pub RefusalSays : State → State → StoreRefusal → Type 0
RefusalSays old new NoHeader = ((slot : ℕ) (h : Header) → ¬ Newest old.blocks (settled_on old) slot h) × (new.log ≡ old.log)
RefusalSays old new (BadBit b) = HasBadBit old b × (new.log ≡ old.log)
RefusalSays old new Spent = IsUsedUp old.blocks (settled_on old) × (new.log ≡ old.log)
RefusalSays old new ReadFault = (new.log ≡ old.log) ⊎ MayBeMounted old
RefusalSays old new DiskFault = MayBeMounted old
RefusalSays old new NoMemory = new.log ≡ old.log

-- the refusal of a mount, as one of a store
abbrev pub refusal_of : MountRefusal → StoreRefusal
refusal_of mounting.NoHeader = NoHeader
refusal_of mounting.Spent = Spent
refusal_of mounting.ReadFault = ReadFault
refusal_of mounting.DiskFault = DiskFault
refusal_of mounting.NoMemory = NoMemory

-- the refusal comes of a failed read
abbrev pub is_read_fault : StoreRefusal → Bool
is_read_fault NoHeader = false
is_read_fault (BadBit b) = false
is_read_fault Spent = false
is_read_fault ReadFault = true
is_read_fault DiskFault = false
is_read_fault NoMemory = false

-- it comes of a failed write or wait
abbrev pub is_disk_fault : StoreRefusal → Bool
is_disk_fault NoHeader = false
is_disk_fault (BadBit b) = false
is_disk_fault Spent = false
is_disk_fault ReadFault = false
is_disk_fault DiskFault = true
is_disk_fault NoMemory = false

-- a failed read stopped the opening
abbrev pub is_unread : {T : Type 0} → Result T StoreRefusal → Bool
is_unread (Ok x) = false
is_unread (Err why) = is_read_fault why

-- a failed write or wait stopped it
abbrev pub is_faulty : {T : Type 0} → Result T StoreRefusal → Bool
is_faulty (Ok x) = false
is_faulty (Err why) = is_disk_fault why
