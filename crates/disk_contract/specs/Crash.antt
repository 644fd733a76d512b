-- What a crash may leave of a disk: crash images, torn blocks, the honest images that proofs speak of,
-- and statements on every moment of a log. The rules are described in docs/DISK.md.
use Rattle.std.specs.Prelude.{◌≡◌, ◌≢◌, ◌⊎◌, ℕ, ◌≤◌, ◌<◌, List, [], ◌∷◌, length, take}
use Rattle.base_types.specs.Seal.{Blocks, IsSealed, sha256}
use Rattle.disk_contract.specs.declared.event.Event.{Event}
use Rattle.disk_contract.specs.Cell.{Cell, Write, cell_of, IsWritten}

-- these are the bytes of one of the writes
abbrev pub AreBytesOf : List Write → List ℕ → Type 0
AreBytesOf [] x = ⊥
AreBytesOf (w ∷ ws) x = (x ≡ w.bytes) ⊎ AreBytesOf ws x

-- what a crash may leave of a block: its settled content, or any one of its pending writes, or, where one is pending, any 1,024 bytes
abbrev pub MayHold : Cell → List ℕ → Type 0
MayHold c x = (x ≡ c.settled) ⊎ AreBytesOf c.pending x ⊎ ((0 < length c.pending) × (length x ≡ 1024))

-- a torn block: neither the settled content nor a pending write
pub record IsTorn (c : Cell) (x : List ℕ) : Type 0 where
  pub not_settled : x ≢ c.settled
  pub not_written : ¬ AreBytesOf c.pending x

-- a crash image of a disk of n blocks after these events: each block is one that a crash may leave there, whatever the others are
abbrev pub IsImage : ℕ → Blocks → List Event → Blocks → Type 0
IsImage n base log img = (b : ℕ) → b < n → MayHold (cell_of base log b) (img b)

-- an honest image: a crash image where no torn block is sealed by chance, and no block has by chance the digest of one of the base or of a write
pub record IsHonest (n : ℕ) (base : Blocks) (log : List Event) (img : Blocks) : Type 0 where
  pub leaves : IsImage n base log img
  pub unsealed : (b : ℕ) → b < n → IsTorn (cell_of base log b) (img b) → ¬ IsSealed (img b)
  pub like_base : (b c : ℕ) → b < n → c < n → sha256 (img b) ≡ sha256 (base c) → img b ≡ base c
  pub like_written : (b : ℕ) (x : List ℕ) → b < n → IsWritten x log → sha256 (img b) ≡ sha256 x → img b ≡ x

-- each honest image of each moment of the log, from moment t on, has P; moment k is the log's first k events
pub record Window (n : ℕ) (base : Blocks) (log : List Event) (t : ℕ) (P : Blocks → Type 0) : Type 0 where
  pub each : (k : ℕ) (img : Blocks) → t ≤ k → k ≤ length log → IsHonest n base (take k log) img → P img
