-- Appends as bytes, one behind the other, and how far a pass over them has come.
use Rattle.std.specs.Prelude.{◌≡◌, ℕ, ◌<◌, ◌≤◌, List, ◌++◌, length, drop}
use Rattle.std.specs.List.{AllByRecursion, flat_map}
use Rattle.byteorder.specs.Endian.{little_bytes}

-- an append as its file has it: how many bytes it has, in four of them, the lowest first, and then its bytes
abbrev pub spelling : List ℕ → List ℕ
spelling bytes = little_bytes 4 (length bytes) ++ bytes

-- appends, one behind the other
abbrev pub spellings : List (List ℕ) → List ℕ
spellings appends = flat_map spelling appends

-- an append has 65,536 bytes at most
abbrev pub IsShort : List ℕ → Type 0
IsShort bytes = length bytes ≤ 65536

-- so have all of them
abbrev pub AreShort : List (List ℕ) → Type 0
AreShort appends = AllByRecursion IsShort appends

-- These bytes begin with this append, which is whole.
pub record BeginsWith (bytes append : List ℕ) : Type 0 where
  pub rest : List ℕ
  pub short : IsShort append
  pub is : bytes ≡ spelling append ++ rest

-- they begin with no whole append
abbrev pub BeginsWithNone : List ℕ → Type 0
BeginsWithNone bytes = (append : List ℕ) → BeginsWith bytes append → ⊥

-- So many whole appends at the front of the bytes were passed, which take so many of them.
pub record HasPassed (bytes : List ℕ) (count taken : ℕ) : Type 0 where
  pub passed : List (List ℕ)
  pub is : bytes ≡ spellings passed ++ drop taken bytes
  pub short : AreShort passed
  pub counts : count ≡ length passed
  pub takes : taken ≡ length (spellings passed)

-- At most so many as were asked for were passed, and fewer only where no other one is whole.
pub record Passes (bytes : List ℕ) (most count taken : ℕ) : Type 0 where
  pub so_far : HasPassed bytes count taken
  pub upto : count ≤ most
  pub ends : count < most → BeginsWithNone (drop taken bytes)
