-- What a mount finds on a disk, what it leaves, and what it spends.
use Rattle.std.specs.Prelude.{◌≡◌, ⊤, ◌⊎◌, ℕ, ◌+◌, ◌<◌, ◌≤◌, Bool, true, [], length}
use Rattle.base_types.specs.Counts.{after_call, after_calls}
use Rattle.base_types.specs.Seal.{Blocks}
use Rattle.disk_contract.specs.Crash.{Window}
use Rattle.disk_contract.specs.Disk.{State, SameDisk}
use Rattle.layout_journal.specs.declared.header.Header.{Header}
use Rattle.layout_journal.specs.Run.{Newest}
use Rattle.engine_recover.specs.Epoch.{IsGreatestEpoch}
use Rattle.engine_recover.specs.Search.{FoundRun, IsFound, is_spent, last_number}
use Rattle.crash_argument.specs.Ledger.{HoldsUnder, cells_of}
use Rattle.crash_argument.specs.Opening.{settled}
use Rattle.crash_argument.specs.Replay.{found_map}
use Rattle.engine_mount.specs.declared.refusal.MountRefusal.{MountRefusal}
use Rattle.engine_mount.specs.declared.refusal.MountRefusal.TheVariants.{NoHeader, Spent, ReadFault, DiskFault, NoMemory}

-- what a search finds on a disk that is to be mounted: the newest header with its slot and its run, and the greatest epoch
pub record FoundDisk : Type 0 where
  pub run : FoundRun
  pub epoch : ℕ

-- nothing is pending on the disk
abbrev pub IsIdle : State → Type 0
IsIdle d = (b : ℕ) → (cells_of d b).pending ≡ []

-- what is settled on it
abbrev pub settled_on : State → Blocks
settled_on d = settled (cells_of d)

-- that was found in what is settled on the disk
pub record IsFoundOn (d : State) (f : FoundDisk) : Type 0 where
  pub is_found : IsFound d.blocks (settled_on d) f.run
  pub is_greatest : IsGreatestEpoch f.run.header.geom (settled_on d) f.epoch

-- no run that is found on the disk has a record, so that there is nothing to replay
abbrev pub HasNothingToReplay : State → Type 0
HasNothingToReplay d = (f : FoundDisk) → IsFoundOn d f → f.run.records ≡ []

-- each honest image of each moment from t on holds the map of this run, which was found in these blocks
abbrev pub StaysFound : State → ℕ → Blocks → FoundRun → Type 0
StaysFound d t at r = Window r.header.geom.n d.base d.log t (λ img. HoldsUnder r.header.geom.n r.header.geom img (found_map at r.header r.records))

-- A header goes on from what was found: its epoch is one above the greatest on the disk, its turn is later by one or two, and its records begin behind the last one of the run, at the first ring place.
pub record GoesOn (n : ℕ) (at : Blocks) (h : Header) : Type 0 where
  pub found : FoundRun
  pub is_found : IsFound n at found
  pub greatest : ℕ
  pub is_greatest : IsGreatestEpoch found.header.geom at greatest
  pub epoch : h.epoch ≡ greatest + 1
  pub turn : found.header.turn < h.turn
  pub most : h.turn ≤ found.header.turn + 2
  pub start : h.start ≡ last_number found.header (length found.records) + 1
  pub sure : h.sure ≡ last_number found.header (length found.records)
  pub place : h.at ≡ 0

-- a newest header and a run were found, and a number of theirs, or the greatest epoch, is at its end
pub record IsUsedUp (n : ℕ) (at : Blocks) : Type 0 where
  pub found : FoundRun
  pub is_found : IsFound n at found
  pub at_end : (is_spent found.header (length found.records) ≡ true) ⊎ ((greatest : ℕ) × IsGreatestEpoch found.header.geom at greatest × (9223372036854775792 ≤ greatest))

-- what a refusal says of the disk; where it comes from what was found, nothing was written
abbrev pub RefusalSays : State → State → MountRefusal → Type 0
RefusalSays old new NoHeader = ((slot : ℕ) (h : Header) → ¬ Newest old.blocks (settled_on old) slot h) × (new.log ≡ old.log)
RefusalSays old new Spent = IsUsedUp old.blocks (settled_on old) × (new.log ≡ old.log)
RefusalSays old new ReadFault = ⊤
RefusalSays old new DiskFault = ⊤
RefusalSays old new NoMemory = new.log ≡ old.log

-- What a mount spends that waits at most so many times: a failed read, and a failed write or wait, was counted once; it polls nothing, and size and base stay.
pub record MountSpends (unread faulty : Bool) (most : ℕ) (old new : State) : Type 0 where
  pub same : SameDisk old new
  pub read_faults : new.read_faults ≡ after_call unread old.read_faults
  pub faults : new.faults ≡ after_call faulty old.faults
  pub waits : (made : ℕ) × (made ≤ most) × (new.waits ≡ after_calls made old.waits)
  pub polls : new.polls ≡ old.polls

-- the disk was waited for at least once, so that its count of waits was counted anew
abbrev pub HasWaited : State → State → Type 0
HasWaited old new = (made : ℕ) × (0 < made) × (new.waits ≡ after_calls made old.waits)

-- What a mount leaves over any disk: the header releases all records, and the disk was waited for.
pub record OpensAnew (h : Header) (old new : State) : Type 0 where
  pub released : h.start ≡ h.sure + 1
  pub waited : HasWaited old new
