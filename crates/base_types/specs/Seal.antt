-- Sealed blocks, and blocks by their numbers. A seal is described in docs/LAYOUT.md.
use Rattle.std.specs.Prelude.{◌≡◌, ℕ, Bool, List, [], take, drop, bytes_eq, slice_index_or}
pub use Rattle.sha2.specs.Sha256.{sha256}

-- the last 32 of 1,024 bytes are the SHA-256 of those before them
abbrev pub IsSealed : List ℕ → Type 0
IsSealed block = drop 992 block ≡ sha256 (take 992 block)

-- the same as a test
abbrev pub is_sealed : List ℕ → Bool
is_sealed block = bytes_eq (drop 992 block) (sha256 (take 992 block))

-- the bytes of each block, by its number: a disk's blocks, an image after a crash, a map of live blocks
abbrev pub Blocks : Type 0
Blocks = ℕ → List ℕ

-- the blocks of a list, by their places; behind the list there are none
abbrev pub blocks_of : List (List ℕ) → Blocks
blocks_of list b = slice_index_or list b []
