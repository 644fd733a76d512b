-- What the check finds of the slots of one directory, and of all that it went through.
use Rattle.std.specs.Prelude.{◌≡◌, ◌≢◌, ⊤, ℕ, ◌+◌, ◌-◌, ◌^◌, ◌<◌, min, Bool, true, false, List, ◌++◌, get_or, length, take, drop, slice_get, Option, None, Some, option_map}
use Rattle.base_types.specs.declared.layout.Layout.{Layout}
use Rattle.base_types.specs.Layouts.{slot_place, slot_size}
use Rattle.layout_bytes.specs.declared.slot.Slot.{Slot}
use Rattle.layout_bytes.specs.Bytes.{has_zeros, when}
use Rattle.layout_bytes.specs.Slot.{slot_of}
use Rattle.crash_stands.specs.Inodes.{Inodes, ADir, AreDistinct}
use Rattle.fs_inodes.specs.Links.{naming, naming_from}
use Rattle.fs_check.specs.declared.damage.TreeDamage.{TreeDamage}
use Rattle.fs_check.specs.declared.damage.TreeDamage.TheVariants as damage
use Rattle.fs_check.specs.declared.looked.Looked.{Looked}
use Rattle.fs_check.specs.declared.looked.Looked.TheVariants.{Unused, Directory, Links}
use Rattle.fs_check.specs.Looked.{seen}

-- a count of 64 bits, which stops at its last value
abbrev pub capped : ℕ → ℕ
capped n = min n (2 ^ 64 - 1)

-- the slot may name that node
pub record MayName (nodes : List Looked) (node : ℕ) : Type 0 where
  pub other : node ≢ 1
  pub used : seen nodes node ≢ Unused

-- each slot names a node that it may name
abbrev pub NameUsed : List Looked → List Slot → Type 0
NameUsed nodes slots = (i : ℕ) (s : Slot) → slice_get slots i ≡ Some s → MayName nodes s.node

-- the counts of these slots came to the counts
abbrev pub AreCounted : List Slot → List ℕ → List ℕ → Type 0
AreCounted slots named new = (n : ℕ) → n < length named → get_or new n 0 ≡ capped (get_or named n 0 + naming n slots)

-- the slot at a place has the name of one before it
pub record Repeats (slots : List Slot) (place : ℕ) : Type 0 where
  pub slot : Slot
  pub at : slice_get slots place ≡ Some slot
  pub earlier : ℕ
  pub before : earlier < place
  pub other : Slot
  pub at_other : slice_get slots earlier ≡ Some other
  pub same : other.name ≡ slot.name

-- the slot at a place names this node
pub record Names (slots : List Slot) (place node : ℕ) : Type 0 where
  pub slot : Slot
  pub at : slice_get slots place ≡ Some slot
  pub names : slot.node ≡ node

-- the slot at a place names a node that was seen to be unused
pub record NamesNone (nodes : List Looked) (slots : List Slot) (place : ℕ) : Type 0 where
  pub slot : Slot
  pub at : slice_get slots place ≡ Some slot
  pub unused : seen nodes slot.node ≡ Unused

-- what is broken in a directory with these slots
abbrev pub IsBrokenIn : List Looked → ℕ → List Slot → TreeDamage → Type 0
IsBrokenIn nodes dir slots (damage.NamesRoot d place) = (d ≡ dir) × Names slots place 1
IsBrokenIn nodes dir slots (damage.NamesUnused d place) = (d ≡ dir) × NamesNone nodes slots place
IsBrokenIn nodes dir slots (damage.RepeatsName d place) = (d ≡ dir) × Repeats slots place
IsBrokenIn nodes dir slots _ = ⊥

-- The check went through a directory: its names are distinct, its slots name nodes in use, and they were counted.
pub record WentThrough (nodes : List Looked) (m : Inodes) (dir : ℕ) (named new : List ℕ) : Type 0 where
  pub slots : List Slot
  pub is_dir : m dir ≡ Some (ADir slots)
  pub distinct : AreDistinct slots
  pub names : NameUsed nodes slots
  pub counted : AreCounted slots named new

-- the check went through a node that was seen so: one that isn't a directory changes no count
abbrev pub WentBy : List Looked → Inodes → ℕ → Looked → List ℕ → List ℕ → Type 0
WentBy nodes m node Unused named new = new ≡ named
WentBy nodes m node (Links links) named new = new ≡ named
WentBy nodes m node (Directory size) named new = WentThrough nodes m node named new

-- what holds of a node that was seen as a directory
abbrev pub IsGoodDir : List Looked → Inodes → ℕ → Looked → Type 0
IsGoodDir nodes m dir Unused = ⊤
IsGoodDir nodes m dir (Links links) = ⊤
IsGoodDir nodes m dir (Directory size) = (slots : List Slot) × (m dir ≡ Some (ADir slots)) × AreDistinct slots × NameUsed nodes slots

-- The check went through the directories of all numbers below k.
pub record WentUpTo (nodes : List Looked) (m : Inodes) (k : ℕ) (named : List ℕ) : Type 0 where
  pub count : length named ≡ length nodes
  pub dirs : (d : ℕ) → d < k → IsGoodDir nodes m d (seen nodes d)
  pub counted : (n : ℕ) → n < length nodes → get_or named n 0 ≡ capped (naming_from m n 1 (k - 1))

-- the slot at a place of these bytes, where there are zeros behind it up to the next place
abbrev pub slot_with_gap : Layout → List ℕ → ℕ → Option Slot
slot_with_gap l bytes place =
    when (has_zeros bytes (slot_place l place + slot_size l) (slot_place l (place + 1))) (slot_of l (take (slot_size l) (drop (slot_place l place) bytes)))

-- The slots that were found come behind the others; else none were found.
abbrev pub AppendsSlots : Bool → Option (List Slot) → List Slot → List Slot → Type 0
AppendsSlots true found old new = option_map (λ slots. old ++ slots) found ≡ Some new
AppendsSlots false found old new = found ≡ None

-- why a slot at this place of a directory may not name that node
abbrev pub IsBadNumber : List Looked → ℕ → ℕ → ℕ → TreeDamage → Type 0
IsBadNumber nodes dir place node (damage.NamesRoot d i) = (d ≡ dir) × (i ≡ place) × (node ≡ 1)
IsBadNumber nodes dir place node (damage.NamesUnused d i) = (d ≡ dir) × (i ≡ place) × (seen nodes node ≡ Unused)
IsBadNumber nodes dir place node _ = ⊥

-- one of the slots has this name
pub record HasName (slots : List Slot) (name : List ℕ) : Type 0 where
  pub place : ℕ
  pub slot : Slot
  pub at : slice_get slots place ≡ Some slot
  pub named : slot.name ≡ name

-- No two of the slots have one name, and just their names are kept.
pub record HasNames (slots : List Slot) (kept : List ℕ → Bool) : Type 0 where
  pub distinct : AreDistinct slots
  pub has : (name : List ℕ) → HasName slots name → kept name ≡ true
  pub only : (name : List ℕ) → kept name ≡ true → HasName slots name
