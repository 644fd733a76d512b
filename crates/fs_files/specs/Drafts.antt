-- What a draft has changed of a map of blocks, and the blocks and marks with its changes. It is described in docs/FILES.md.
use Rattle.std.specs.Prelude.{◌≡◌, ℕ, ◌+◌, ◌≤◌, ◌==◌, Bool, true, false, not, ◌&&◌, ◌||◌, if◌then◌else◌, List, [], ◌++◌, length, replicate, Option, None, Some, is_some}
use Rattle.std.specs.Map.{lookup}
use Rattle.std.specs.Ordering.{nat_cmp}
use Rattle.std.specs.BTreeMap.{is_at}
use Rattle.base_types.specs.Seal.{Blocks}
use Rattle.base_types.specs.declared.words.Class.{Class}
use Rattle.base_types.specs.declared.words.Class.TheVariants.{Meta, Content}
use Rattle.engine_blocks.specs.Running.{has}
use Rattle.fs_files.specs.declared.changes.Changed.{Changed}

-- the change of block b among these, if there is one
abbrev pub change_of : List (ℕ × Changed) → ℕ → Option Changed
change_of changes b = lookup (is_at (nat_cmp b)) changes

-- what a draft has: how many snapshots keep each block, the new bytes of blocks, the new content of files in blocks that it takes, and the numbers to take and to free
pub record DraftState : Type 0 where
  pub kept : List ℕ
  pub changed : List (ℕ × Changed)
  pub fresh : List (ℕ × Changed)
  pub taken : List ℕ
  pub freed : List ℕ

-- a draft in which nothing was done, where no block is kept
abbrev pub nothing_drafted : DraftState
nothing_drafted = record { kept = []; changed = []; fresh = []; taken = []; freed = [] }

-- a draft in which nothing was done, where so many snapshots keep each block
abbrev pub begun_beside : List ℕ → DraftState
begun_beside kept = record nothing_drafted { kept = kept }

-- some block has new bytes that aren't new content
abbrev pub ChangesSome : DraftState → Type 0
ChangesSome d = (b : ℕ) × (is_some (change_of d.changed b) ≡ true)

-- these bytes, where nothing else is there
abbrev pub bytes_or : List ℕ → Option Changed → List ℕ
bytes_or bytes None = bytes
bytes_or bytes (Some c) = c.bytes

-- the blocks with the draft's changes; a freed block has nothing
abbrev pub drafted : DraftState → Blocks → Blocks
drafted d m b = if has d.freed b then [] else bytes_or (bytes_or (m b) (change_of d.fresh b)) (change_of d.changed b)

-- the marks with the draft's changes
abbrev pub marks_of : DraftState → (ℕ → Bool) → ℕ → Bool
marks_of d marked b = not (has d.freed b) && (has d.taken b || marked b)

-- whether the class is that of metadata
abbrev pub is_meta : Class → Bool
is_meta Meta = true
is_meta Content = false

-- a block of zeros
abbrev pub zeros_of : Class → Changed
zeros_of class = record { class = class; bytes = replicate 1024 0 }

-- Block b has these bytes now: among the new content, if it had some there, and else among the changes. Nothing else is new.
pub record PutsBlock (b : ℕ) (c : Changed) (d e : DraftState) : Type 0 where
  pub kept : e.kept ≡ d.kept
  pub changed : (q : ℕ) → change_of e.changed q ≡ (if is_some (change_of d.fresh b) then change_of d.changed q else if b == q then Some c else change_of d.changed q)
  pub fresh : (q : ℕ) → change_of e.fresh q ≡ (if is_some (change_of d.fresh b) && (b == q) then Some c else change_of d.fresh q)
  pub fresh_len : length e.fresh ≡ length d.fresh
  pub taken : e.taken ≡ d.taken
  pub freed : e.freed ≡ d.freed

-- These blocks are taken too, and have zeros: as new content of a file, or as changes.
pub record TakesBlocks (class : Class) (bs : List ℕ) (d e : DraftState) : Type 0 where
  pub kept : e.kept ≡ d.kept
  pub changed : (q : ℕ) → change_of e.changed q ≡ (if is_meta class && has bs q then Some (zeros_of class) else change_of d.changed q)
  pub fresh : (q : ℕ) → change_of e.fresh q ≡ (if not (is_meta class) && has bs q then Some (zeros_of class) else change_of d.fresh q)
  pub fresh_len : length e.fresh ≤ length d.fresh + (if is_meta class then 0 else length bs)
  pub taken : e.taken ≡ d.taken ++ bs
  pub freed : e.freed ≡ d.freed

-- These blocks are to be freed too, and have no new bytes.
pub record FreesBlocks (bs : List ℕ) (d e : DraftState) : Type 0 where
  pub kept : e.kept ≡ d.kept
  pub changed : (q : ℕ) → change_of e.changed q ≡ (if has bs q then None else change_of d.changed q)
  pub fresh : (q : ℕ) → change_of e.fresh q ≡ (if has bs q then None else change_of d.fresh q)
  pub fresh_len : length e.fresh ≤ length d.fresh
  pub taken : e.taken ≡ d.taken
  pub freed : e.freed ≡ d.freed ++ bs
