-- The content of the blocks of a node as a draft has them.
use Rattle.std.specs.Prelude.{◌≡◌, ◌≢◌, ◌⊎◌, ℕ, Bool, true, false, ◌||◌, List, length, None, Some, is_some, Result, Ok, Err}
use Rattle.std.specs.List.{All, AllPairs}
use Rattle.base_types.specs.Seal.{Blocks}
use Rattle.base_types.specs.declared.words.Class.{Class}
use Rattle.engine_blocks.specs.Running.{has}
use Rattle.fs_files.specs.declared.refusal.FileRefusal.{FileRefusal}
use Rattle.fs_files.specs.declared.refusal.FileRefusal.TheVariants as refusal
use Rattle.fs_files.specs.declared.changes.Changed.{Changed}
use Rattle.fs_files.specs.Drafts.{DraftState, change_of, drafted}

-- whether a call was refused by a failed read
abbrev pub fails_reading : {T : Type 0} → Result T FileRefusal → Bool
fails_reading (Ok x) = false
fails_reading (Err refusal.ReadFault) = true
fails_reading (Err (refusal.Short need reusable)) = false
fails_reading (Err (refusal.Scattered runs)) = false
fails_reading (Err refusal.DiskFault) = false
fails_reading (Err refusal.NoMemory) = false

-- whether it was refused by another failed call of the disk
abbrev pub fails_settling : {T : Type 0} → Result T FileRefusal → Bool
fails_settling (Ok x) = false
fails_settling (Err refusal.ReadFault) = false
fails_settling (Err (refusal.Short need reusable)) = false
fails_settling (Err (refusal.Scattered runs)) = false
fails_settling (Err refusal.DiskFault) = true
fails_settling (Err refusal.NoMemory) = false

-- each of these blocks has 1,024 bytes as the draft has it, none is there twice, and what is put into one is what it has then
pub record HasContent (m : Blocks) (d : DraftState) (places : List ℕ) : Type 0 where
  pub whole : All (λ b. length (drafted d m b) ≡ 1024) places
  pub once : AllPairs (λ a b. a ≢ b) places
  pub apart : All (λ b. is_some (change_of d.fresh b) ≡ true → change_of d.changed b ≡ None) places

-- some block has new bytes, be they new content or not
abbrev pub HasNewBytes : DraftState → Type 0
HasNewBytes d = (b : ℕ) × ((is_some (change_of d.changed b) || is_some (change_of d.fresh b)) ≡ true)

-- These blocks got new bytes of this class, and nothing else of the draft changed.
pub record WritesContent (class : Class) (bs : List ℕ) (d e : DraftState) : Type 0 where
  pub kept : e.kept ≡ d.kept
  pub others : (b : ℕ) → has bs b ≡ false → change_of e.changed b ≡ change_of d.changed b
  pub other_fresh : (b : ℕ) → has bs b ≡ false → change_of e.fresh b ≡ change_of d.fresh b
  pub keys : (b : ℕ) → is_some (change_of e.changed b) ≡ true → (has bs b || is_some (change_of d.changed b)) ≡ true
  pub stays : (b : ℕ) → is_some (change_of d.changed b) ≡ true → is_some (change_of e.changed b) ≡ true
  pub fresh_keys : (b : ℕ) → is_some (change_of e.fresh b) ≡ is_some (change_of d.fresh b)
  pub fresh_len : length e.fresh ≡ length d.fresh
  pub taken : e.taken ≡ d.taken
  pub freed : e.freed ≡ d.freed
  pub apart : (b : ℕ) → is_some (change_of d.fresh b) ≡ true → change_of e.changed b ≡ change_of d.changed b
  pub class_changed : (b : ℕ) (c : Changed) → change_of e.changed b ≡ Some c → (c.class ≡ class) ⊎ (change_of d.changed b ≡ Some c)
  pub class_fresh : (b : ℕ) (c : Changed) → change_of e.fresh b ≡ Some c → (c.class ≡ class) ⊎ (change_of d.fresh b ≡ Some c)
