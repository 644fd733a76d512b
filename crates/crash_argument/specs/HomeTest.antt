-- The test by which code finds the checkpoint writes of a batch: of all that the batch's records say of a block, that they have a payload for it, wrote it fresh or freed it, the last decides.
use Rattle.std.specs.Prelude.{◌≡◌, ℕ, ◌+◌, ◌==◌, ◌≤◌, Bool, true, false, IsTrue, if◌then◌else◌, List, [], ◌∷◌, length, slice_get, Option, Some, None}
use Rattle.layout_geometry.specs.Geometry.{data_start}
use Rattle.layout_journal.specs.Run.{names_block, or_else, is_live}
use Rattle.crash_argument.specs.Ledger.{Ledger, WrittenRecord, payload_in}

-- the number is one of these
abbrev pub is_one_of : ℕ → List ℕ → Bool
is_one_of b [] = false
is_one_of b (c ∷ cs) = if c == b then true else is_one_of b cs

-- what a record makes of the bytes that the block's checkpoint write is to have; within one record a free of the block comes last
abbrev pub goes_after : Option (List ℕ) → WrittenRecord → List ℕ → ℕ → Option (List ℕ)
goes_after before w freed b = if is_one_of b freed then None else or_else (payload_in w b) (if names_block w.says.fresh b then None else before)

-- the bytes of the block's checkpoint write after these records, each with the blocks that it freed; None where the block is to have none
abbrev pub goes_home : Option (List ℕ) → List WrittenRecord → List (List ℕ) → ℕ → Option (List ℕ)
goes_home before [] freed b = before
goes_home before (w ∷ ws) [] b = before
goes_home before (w ∷ ws) (f ∷ fs) b = goes_home (goes_after before w f b) ws fs b

-- These are the blocks that each of the ledger's records freed: each block that it killed is among its own, and each of its own is dead after it.
pub record AreFreedBy (l : Ledger) (freed : List (List ℕ)) : Type 0 where
  pub count : length freed ≡ length l.records
  pub killed : (k b : ℕ) (w : WrittenRecord) (f : List ℕ) → slice_get l.records k ≡ Some w → slice_get freed k ≡ Some f → data_start l.geom ≤ b
      → IsTrue (is_live l.geom (l.map_before w.says.number) b) → is_live l.geom (l.map_before (w.says.number + 1)) b ≡ false → is_one_of b f ≡ true
  pub dead : (k b : ℕ) (w : WrittenRecord) (f : List ℕ) → slice_get l.records k ≡ Some w → slice_get freed k ≡ Some f → is_one_of b f ≡ true → is_live l.geom (l.map_before (w.says.number + 1)) b ≡ false
