-- The greatest epoch on a disk.
use Rattle.std.specs.Prelude.{ℕ, ◌≡◌, ◌<◌, ◌≤◌, ◌⊎◌, Bool, true, ◌&&◌, ◌||◌, if◌then◌else◌, List, Option, Some, None}
use Rattle.base_types.specs.Seal.{Blocks, is_sealed}
use Rattle.layout_geometry.specs.Geometry.{Geometry, ring_block}
use Rattle.layout_bytes.specs.Bytes.{field}
use Rattle.layout_journal.specs.declared.header.Header.{Header}
use Rattle.layout_journal.specs.Layout.{header_of, has_tag, commit_tag, descriptor_tag}

-- a sealed block that begins as a commit block or descriptor does, whether the rest of it fits or not
abbrev pub is_of_record : List ℕ → Bool
is_of_record b = (has_tag commit_tag b || has_tag descriptor_tag b) && is_sealed b

-- a header in slot 0 or 1 has this epoch
abbrev pub IsHeaderEpoch : Geometry → Blocks → ℕ → Type 0
IsHeaderEpoch g img e = (slot : ℕ) × (h : Header) × (slot < 2) × (header_of g.n (img slot) ≡ Some h) × (h.epoch ≡ e)

-- a block of the ring that begins as one of a record does has this epoch
abbrev pub IsRecordEpoch : Geometry → Blocks → ℕ → Type 0
IsRecordEpoch g img e = (place : ℕ) × (place < g.j) × (is_of_record (img (ring_block g place)) ≡ true) × (field (img (ring_block g place)) 8 8 ≡ e)

-- the greatest of these epochs, and 0 where there is none
pub record IsGreatestEpoch (g : Geometry) (img : Blocks) (e : ℕ) : Type 0 where
  pub headers : (a : ℕ) → IsHeaderEpoch g img a → a ≤ e
  pub blocks : (a : ℕ) → IsRecordEpoch g img a → a ≤ e
  pub is_one : (e ≡ 0) ⊎ (IsHeaderEpoch g img e ⊎ IsRecordEpoch g img e)

-- the epoch of a header, and 0 where there is none
abbrev pub epoch_of : Option Header → ℕ
epoch_of None = 0
epoch_of (Some h) = h.epoch

abbrev pub header_epoch : ℕ → List ℕ → ℕ
header_epoch n b = epoch_of (header_of n b)

-- the epoch of a block that begins as one of a record does, and 0 for any other
abbrev pub record_epoch : List ℕ → ℕ
record_epoch b = if is_of_record b then field b 8 8 else 0
