-- A scan of an inode map `w` from its root, slot by slot: `m` is what was seen so far, as an inode map of its own. A tree stands for that from the first moment on.
use Rattle.std.specs.Prelude.{◌≡◌, ℕ, List, ◌++◌, Some}
use Rattle.layout_bytes.specs.declared.slot.Slot.{Slot}
use Rattle.crash_stands.specs.Inodes.{Inode, Inodes, ADir, AFile}

-- Each directory that was seen has the first of its slots, and each file its bytes.
pub record IsPartOf (m w : Inodes) : Type 0 where
  pub dirs : (k : ℕ) (slots : List Slot) → m k ≡ Some (ADir slots) → (rest : List Slot) × (w k ≡ Some (ADir (slots ++ rest)))
  pub files : (k links : ℕ) (bytes : List ℕ) → m k ≡ Some (AFile links bytes) → (all : ℕ) × (w k ≡ Some (AFile all bytes))

-- each directory that was seen has all its slots
abbrev pub IsThrough : Inodes → Inodes → Type 0
IsThrough m w = (k : ℕ) (slots : List Slot) → m k ≡ Some (ADir slots) → w k ≡ Some (ADir slots)

-- each node in use was seen
abbrev pub SawAll : Inodes → Inodes → Type 0
SawAll m w = (k : ℕ) (x : Inode) → w k ≡ Some x → (y : Inode) × (m k ≡ Some y)

-- as many slots name each file as it says
abbrev pub LinksFit : Inodes → Inodes → Type 0
LinksFit m w = (k seen all : ℕ) (bytes more : List ℕ) → m k ≡ Some (AFile seen bytes) → w k ≡ Some (AFile all more) → seen ≡ all
