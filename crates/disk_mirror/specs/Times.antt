-- Which moment of a mirror stands for a moment of one of its disks. It is told by how many events the disk had when each event of the mirror had come.
use Rattle.std.specs.Prelude.{◌≡◌, ℕ, ◌+◌, ◌<◌, ◌≤◌, min, nat_le, Bool, true, if◌then◌else◌, List, [], ◌∷◌, length, map, take, get_or}
use Rattle.base_types.specs.Seal.{Blocks}
use Rattle.disk_contract.specs.declared.bay.Mark.{Mark}
use Rattle.disk_contract.specs.declared.event.Event.{Event}
use Rattle.disk_contract.specs.Crash.{IsHonest}
use Rattle.disk_contract.specs.Disk.{State}
use Rattle.disk_mirror.specs.declared.entry.Side.{Side}
use Rattle.disk_mirror.specs.declared.entry.Side.TheVariants.{First, Second}
use Rattle.disk_mirror.specs.declared.entry.Came.{Came}
use Rattle.disk_mirror.specs.declared.entry.Life.{Life}
use Rattle.disk_mirror.specs.Behind.{LagsBehind}

-- how many events this disk had
abbrev pub came_on : Side → Came → ℕ
came_on First c = c.first
came_on Second c = c.second

-- how many events this disk had when each event of the mirror had come
abbrev pub times_on : Side → List Came → List ℕ
times_on side times = map (came_on side) times

-- how many of these came when the disk had at most k events; they ascend
abbrev pub came_by : ℕ → List ℕ → ℕ
came_by k [] = 0
came_by k (t ∷ ts) = if nat_le t k then 1 + came_by k ts else 0

-- the mirror's moment for the disk's moment k: where the disk is down, none behind that at which it went down
abbrev pub moment_of : Bool → ℕ → ℕ → List ℕ → ℕ
moment_of live end k times = if live then came_by k times else min end (came_by k times)

-- the disk's moment when the mirror had its first j events
abbrev pub moment_on : ℕ → List ℕ → ℕ
moment_on j times = get_or (0 ∷ times) j 0

-- each of these is at most m
abbrev pub AreUpTo : ℕ → List ℕ → Type 0
AreUpTo m [] = Unit {0}
AreUpTo m (t ∷ ts) = (t ≤ m) × AreUpTo m ts

-- each of these is at least m
abbrev pub AreFrom : ℕ → List ℕ → Type 0
AreFrom m [] = Unit {0}
AreFrom m (t ∷ ts) = (m ≤ t) × AreFrom m ts

-- none of these is above a later one
abbrev pub Ascend : List ℕ → Type 0
Ascend [] = Unit {0}
Ascend (t ∷ ts) = AreFrom t ts × Ascend ts

-- at each of its moments the disk lags behind the mirror's log at the moment that stands for it
pub record IsTimed (n : ℕ) (base : Blocks) (log : List Event) (times : List ℕ) (live : Bool) (end : ℕ) (began : Blocks) (events : List Event) : Type 0 where
  pub full : length times ≡ length log
  pub low : AreUpTo (length events) times
  pub ascend : Ascend times
  pub images : (k : ℕ) → k ≤ length events → LagsBehind n base (take (moment_of live end k times) log) began (take k events)

-- a disk began as the mirror did; each honest image of each of its moments, those inside a call among them, is one of the mirror's log at the moment that stands for it
pub record LeavesAtMoments (n : ℕ) (base : Blocks) (log : List Event) (times : List ℕ) (live : Bool) (end : ℕ) (began : Blocks) (events : List Event) : Type 0 where
  pub alike : (b : ℕ) → b < n → began b ≡ base b
  pub full : length times ≡ length log
  pub low : AreUpTo (length events) times
  pub ascend : Ascend times
  pub images : (k : ℕ) (img : Blocks) → k ≤ length events → IsHonest n began (take k events) img → ∥ IsHonest n base (take (moment_of live end k times) log) img ∥₁

-- what is known of one disk at the end
abbrev pub life_of : Bool → ℕ → State → Life
life_of live end disk = record { live = live; end = end; read_faults = disk.read_faults; faults = disk.faults }

-- whether a mark of the mirror was made while the disk was live, as far as the moments tell
abbrev pub was_live : Life → Mark → Bool
was_live life mark = if life.live then true else nat_le mark.moment life.end

-- a disk's own mark for a mark of the mirror: its moment then, and no faults while it was live
abbrev pub mark_on : List ℕ → Life → Mark → Mark
mark_on times life mark = record { moment = moment_on mark.moment times; read_faults = if was_live life mark then 0 else life.read_faults; faults = if was_live life mark then 0 else life.faults }
