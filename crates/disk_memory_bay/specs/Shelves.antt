-- What a bay in memory has under each name, as a list of shelves. The rules are described in docs/BAYS.md.
use Rattle.std.specs.Prelude.{◌≡◌, ◌≢◌, ℕ, ◌<◌, ◌^◌, ◌==◌, Bool, false, List, [], length, Option, Some, None, bytes_eq, find, position, IfSome}
use Rattle.base_types.specs.Seal.{blocks_of}
use Rattle.disk_contract.specs.declared.bay.Mark.{Mark}
use Rattle.disk_contract.specs.Bay.{Kept, fresh, IsSoundKept, IsLeftBy}
use Rattle.disk_memory.specs.declared.calls.Fail.{Fail}
use Rattle.disk_memory.specs.MemDisk.{MemDiskState, state_of}

-- what is held under a name: the image that its next disk begins with, and the disk that was handed back last, with its marks
pub record HeldState : Type 0 where
  pub image : List (List ℕ)
  pub last : Option MemDiskState
  pub marks : List Mark

-- a name, which calls of its disks are to fail, and what is held under it
pub record ShelfState : Type 0 where
  pub name : List ℕ
  pub fails : List Fail
  pub held : Option HeldState

-- what is kept of an image, of the disk that was handed back last, if any was, and of its marks
abbrev pub kept_by : List (List ℕ) → Option MemDiskState → List Mark → Kept
kept_by image None marks = record (fresh image) { marks = marks }
kept_by image (Some d) marks = record { image = image; base = blocks_of d.base; log = d.log; read_faults = d.read_faults; faults = d.faults; marks = marks }

-- what the contract of bays says of what is held
abbrev pub kept_of : HeldState → Kept
kept_of h = kept_by h.image h.last h.marks

-- an image that no disk was made of yet
abbrev pub of_image : List (List ℕ) → HeldState
of_image image = record { image = image; last = None; marks = [] }

-- the shelf of a name, the first that has it
abbrev pub shelf_of : List ShelfState → List ℕ → Option ShelfState
shelf_of shelves name = find (λ s. bytes_eq s.name name) shelves

-- the place of the shelf of a name, the first that has it
abbrev pub place_of : List ShelfState → List ℕ → Option ℕ
place_of shelves name = position (λ s. bytes_eq s.name name) shelves

abbrev pub held_on : Option ShelfState → Option HeldState
held_on None = None
held_on (Some s) = s.held

abbrev pub fails_on : Option ShelfState → List Fail
fails_on None = []
fails_on (Some s) = s.fails

-- what is held under a name
abbrev pub held_in : List ShelfState → List ℕ → Option HeldState
held_in shelves name = held_on (shelf_of shelves name)

-- which calls of the disks of a name are to fail
abbrev pub fails_in : List ShelfState → List ℕ → List Fail
fails_in shelves name = fails_on (shelf_of shelves name)

-- the disk that was handed back last
abbrev pub last_on : Option HeldState → Option MemDiskState
last_on None = None
last_on (Some h) = h.last

-- the marks that came with it
abbrev pub marks_on : Option HeldState → List Mark
marks_on None = []
marks_on (Some h) = h.marks

-- sound: what is kept is sound, and there are fewer than 2^32 blocks
pub record IsSoundHeld (h : HeldState) : Type 0 where
  pub kept : IsSoundKept (kept_of h)
  pub short : length h.image < 2 ^ 32

-- what is held under each name is sound
abbrev pub AreSound : List ShelfState → Type 0
AreSound shelves = (name : List ℕ) → IfSome (held_in shelves name) IsSoundHeld

-- the shelves after this came under a name: nothing else is held elsewhere, and the lists of failing calls stay
pub record Holds (name : List ℕ) (what : HeldState) (old new : List ShelfState) : Type 0 where
  pub held : held_in new name ≡ Some what
  pub others : (other : List ℕ) → other ≢ name → held_in new other ≡ held_in old other
  pub fails : (other : List ℕ) → fails_in new other ≡ fails_in old other

-- the shelves after this list of failing calls came under a name: nothing else changed
pub record Lists (name : List ℕ) (list : List Fail) (old new : List ShelfState) : Type 0 where
  pub fails : fails_in new name ≡ list
  pub others : (other : List ℕ) → other ≢ name → fails_in new other ≡ fails_in old other
  pub held : (other : List ℕ) → held_in new other ≡ held_in old other

-- whether there is an image of so many blocks
abbrev pub has_blocks : ℕ → Option HeldState → Bool
has_blocks n None = false
has_blocks n (Some h) = length h.image == n

-- the shelves after a disk was handed back under a name: its last accepted bytes are the image there
pub record TakesDisk (name : List ℕ) (disk : MemDiskState) (marks : List Mark) (old new : List ShelfState) : Type 0 where
  pub image : List (List ℕ)
  pub left : IsLeftBy (state_of disk) image
  pub shelves : Holds name (record { image = image; last = Some disk; marks = marks }) old new
