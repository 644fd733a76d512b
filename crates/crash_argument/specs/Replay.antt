-- A mount that replays: what each image holds while it goes on.
use Rattle.std.specs.Prelude.{◌≡◌, ◌⊎◌, ℕ, ◌+◌, ◌-◌, ◌<◌, ◌≤◌, IsTrue, List, [], length, Some, None}
use Rattle.base_types.specs.Seal.{Blocks}
use Rattle.disk_contract.specs.Cell.{Cell}
use Rattle.layout_geometry.specs.Geometry.{ring_block, bitmap_start}
use Rattle.layout_journal.specs.declared.header.Header.{Header}
use Rattle.layout_journal.specs.declared.record.Commit.{Commit}
use Rattle.layout_journal.specs.Layout.{header_of, commit_of}
use Rattle.layout_journal.specs.Run.{Newest, Record, IsRun, covered_by, replayed, live_part}
use Rattle.crash_argument.specs.Ledger.{StandsIn}

-- what mount found: the newest header, its run, and the map
pub record IsFound (n : ℕ) (at : Blocks) (slot : ℕ) (h : Header) (run : List Record) : Type 0 where
  pub newest : Newest n at slot h
  pub is_run : IsRun at h run

-- the map that it found
abbrev pub found_map : Blocks → Header → List Record → Blocks
found_map at h run = live_part h.geom (replayed h.geom at run)

-- A header beside this one, which is in this slot, is older: it has a lower turn, or the same turn in slot 1.
abbrev pub IsOlder : ℕ → Header → Header → Type 0
IsOlder slot h k = (k.turn < h.turn) ⊎ ((k.turn ≡ h.turn) × (slot ≡ 0))

-- one header is alone in its slot, and in the other slot an older one or this next one
pub record HasHeaders (n : ℕ) (cells : ℕ → Cell) (slot : ℕ) (h next : Header) : Type 0 where
  pub is_slot : slot < 2
  pub stands : header_of n (cells slot).settled ≡ Some h
  pub alone : (cells slot).pending ≡ []
  pub other : (x : List ℕ) (k : Header) → StandsIn (cells (1 - slot)) x → header_of n x ≡ Some k → IsOlder slot h k ⊎ (k ≡ next)
  pub newer : h.turn < next.turn

-- the blocks are as they were found
pub record IsAsFound (cells : ℕ → Cell) (at : Blocks) (b : ℕ) : Type 0 where
  pub settled : (cells b).settled ≡ at b
  pub idle : (cells b).pending ≡ []

-- a closed header for that run
pub record Closes (h closed : Header) (run : List Record) : Type 0 where
  pub geom : closed.geom ≡ h.geom
  pub epoch : closed.epoch ≡ h.epoch
  pub start : closed.start ≡ h.start
  pub place : closed.at ≡ h.at
  pub is_closed : IsTrue closed.closed
  pub sure : closed.sure + 1 ≡ h.start + length run

-- First the closed header is written; all else is as it was found.
pub record IsClosing (n : ℕ) (cells : ℕ → Cell) (at : Blocks) (slot : ℕ) (h closed : Header) (run : List Record) : Type 0 where
  pub headers : HasHeaders n cells slot h closed
  pub closes : Closes h closed run
  pub rest : (b : ℕ) → 2 ≤ b → IsAsFound cells at b

-- Then, with the closed header alone in its slot, the blocks that the run covers are written home.
pub record IsReplaying (n : ℕ) (cells : ℕ → Cell) (at : Blocks) (slot : ℕ) (h closed : Header) (run : List Record) : Type 0 where
  pub closes : Closes h closed run
  pub is_slot : slot < 2
  pub stands : header_of n (cells slot).settled ≡ Some closed
  pub alone : (cells slot).pending ≡ []
  pub other : (x : List ℕ) (k : Header) → StandsIn (cells (1 - slot)) x → header_of n x ≡ Some k → IsOlder slot closed k
  pub ring : (place : ℕ) → IsAsFound cells at (ring_block h.geom place)
  pub uncovered : (b : ℕ) → bitmap_start h.geom ≤ b → covered_by h.geom at None run b ≡ None → IsAsFound cells at b

-- All of them are at home: the ring is as it was found, and each block behind the journal is as the run leaves it.
pub record IsReplayed (cells : ℕ → Cell) (at : Blocks) (h closed : Header) (run : List Record) : Type 0 where
  pub closes : Closes h closed run
  pub ring : (place : ℕ) → IsAsFound cells at (ring_block h.geom place)
  pub home : (b : ℕ) → bitmap_start h.geom ≤ b → ((cells b).settled ≡ replayed h.geom at run b) × ((cells b).pending ≡ [])

-- Last, a header of a new epoch is written.
pub record IsOpening (n : ℕ) (cells : ℕ → Cell) (at : Blocks) (slot : ℕ) (h closed fresh : Header) (run : List Record) : Type 0 where
  pub replayed : IsReplayed cells at h closed run
  pub headers : HasHeaders n cells slot closed fresh
  pub geom : fresh.geom ≡ h.geom
  pub new_epoch : (place : ℕ) (c : Commit) → commit_of h.geom (at (ring_block h.geom place)) ≡ Some c → c.epoch < fresh.epoch
