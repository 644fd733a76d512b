-- What a formatting writes, what it adds to a log, what it leaves on a disk, and what it spends.
use Rattle.std.specs.Prelude.{◌≡◌, ℕ, ◌-◌, ◌<◌, ◌≤◌, Bool, false, true, List, [], ◌∷◌, ◌++◌, map, replicate, Result, Ok, Err, OnOk}
use Rattle.std.specs.List.{range_with_len}
use Rattle.base_types.specs.Seal.{Blocks}
use Rattle.disk_contract.specs.declared.event.Event.{Event}
use Rattle.disk_contract.specs.Cell.{IsAccepted}
use Rattle.disk_contract.specs.Disk.{State, AddsNotices, SpendsUpTo}
use Rattle.layout_geometry.specs.Geometry.{Geometry, bitmap_start, data_start}
use Rattle.lang_tree.specs.Step.{start}
use Rattle.layout_journal.specs.Formatted.{formatted}
use Rattle.layout_journal.specs.Run.{live_part}
use Rattle.crash_stands.specs.Bounds.{bounds_of}
use Rattle.crash_stands.specs.Stands.{StandsFor}
use Rattle.crash_argument.specs.Ledger.{HoldsUnder, cells_of}
use Rattle.crash_argument.specs.LastWrites.{AvoidsBlock}
use Rattle.crash_argument.specs.PipelineData.{AllNoticed}
use Rattle.crash_argument.specs.Writes.{AddsWrites}
use Rattle.engine_mount.specs.Mount.{IsIdle, settled_on}
use Rattle.engine_store.specs.declared.formatting.Content.{Content}
use Rattle.engine_store.specs.declared.formatting.Content.TheVariants.{Zeros, Formatted}
use Rattle.engine_store.specs.declared.formatting.MkfsRefusal.{MkfsRefusal}
use Rattle.engine_store.specs.declared.formatting.MkfsRefusal.TheVariants.{DiskFault, NoMemory}

-- zeros in each block
abbrev pub zeros : Blocks
zeros b = replicate 1024 0

-- what a row of blocks gets
abbrev pub content_of : Geometry → Content → Blocks
content_of g Zeros = zeros
content_of g Formatted = formatted g

-- so many writes in a row, from this block on, each of what these blocks have there
abbrev pub row_of : Blocks → ℕ → ℕ → List (ℕ × List ℕ)
row_of blocks first count = map (λ b. (b, blocks b)) (range_with_len first count)

-- a write with each of these tickets was accepted
abbrev pub AllAccepted : List Event → List ℕ → Type 0
AllAccepted log [] = Unit {0}
AllAccepted log (t ∷ ts) = IsAccepted t log × AllAccepted log ts

-- These writes are accepted with new tickets, and behind the last one are notices, those of all their tickets among them.
pub record AddsDurably (writes : List (ℕ × List ℕ)) (old new : List Event) : Type 0 where
  pub tickets : List ℕ
  pub middle : List Event
  pub accepted : AddsWrites writes tickets old middle
  pub notices : AddsNotices middle new
  pub noticed : AllNoticed new tickets

-- A formatting adds three groups of writes, each behind the notices of the one before: zeros in both header slots and in the ring, then the bitmap and the node table, then the first header.
pub record AddsFormatting (g : Geometry) (old new : List Event) : Type 0 where
  pub cleared : List Event
  pub laid : List Event
  pub clears : AddsDurably (row_of zeros 0 (bitmap_start g)) old cleared
  pub lays : AddsDurably (row_of (formatted g) (bitmap_start g) (data_start g - bitmap_start g)) cleared laid
  pub heads : AddsDurably ((0, formatted g 0) ∷ []) laid new

-- the log goes on, and no event behind the old ones writes a block from `end` on
pub record WritesBelow (end : ℕ) (old new : List Event) : Type 0 where
  pub more : List Event
  pub log : new ≡ old ++ more
  pub avoids : (b : ℕ) → end ≤ b → AvoidsBlock b more

-- Nothing is pending, the blocks before the data are those of the formatted disk, and the others are as they were.
pub record IsFormattedOver (g : Geometry) (old new : State) : Type 0 where
  pub idle : IsIdle new
  pub before : (b : ℕ) → b < data_start g → settled_on new b ≡ formatted g b
  pub kept : (b : ℕ) → data_start g ≤ b → settled_on new b ≡ settled_on old b

-- What a formatting leaves of a disk on which nothing was pending.
pub record LeavesFormatted {A E : Type 0} (g : Geometry) (result : Result A E) (old new : State) : Type 0 where
  -- what is settled holds the formatted disk's map
  pub holds : OnOk result (HoldsUnder g.n g (settled_on new) (live_part g (formatted g)))
  -- and stands for the tree of the root alone
  pub stands : OnOk result (StandsFor g.n (settled_on new) (start (bounds_of g)).tree)
  -- the data are as they were
  pub kept : (b : ℕ) → data_start g ≤ b → cells_of new b ≡ cells_of old b

-- What a formatting of so many writes spends: it waits once for each, a failed call was counted once, and it reads and polls nothing. Where there was no memory it did nothing.
abbrev pub MkfsSpends : {T : Type 0} → Result T MkfsRefusal → ℕ → State → State → Type 0
MkfsSpends (Ok done) count old new = SpendsUpTo false count old new
MkfsSpends (Err DiskFault) count old new = SpendsUpTo true count old new
MkfsSpends (Err NoMemory) count old new = new ≡ old

-- whether a formatting was refused for a call of the disk that failed
abbrev pub fails_formatting : {T : Type 0} → Result T MkfsRefusal → Bool
fails_formatting (Ok done) = false
fails_formatting (Err DiskFault) = true
fails_formatting (Err NoMemory) = false
