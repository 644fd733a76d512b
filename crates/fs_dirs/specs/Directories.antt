-- Directories of a draft, as its inode map has them, and what a look for a name or along a path answers. They are described in docs/DIRECTORIES.md.
use Rattle.std.specs.Prelude.{◌≡◌, ◌≢◌, ℕ, ◌≤◌, List, [], length, Option, None, Some, option_map, Result, Ok, Err}
use Rattle.layout_bytes.specs.declared.slot.Slot.{Slot}
use Rattle.layout_directory.specs.Directory.{place_of}
use Rattle.lang_tree.specs.declared.command.Refusal.{Refusal}
use Rattle.lang_tree.specs.Paths.{parent}
use Rattle.crash_stands.specs.Inodes.{Inode, Inodes, ADir, AFile, inodes_of}
use Rattle.crash_stands.specs.Walks.{node_in}
use Rattle.fs_inodes.specs.Lookups.{walk_on}
use Rattle.fs_inodes.specs.Refusals.{parent_reason}
use Rattle.engine_blocks.specs.State.{State}
use Rattle.fs_files.specs.Drafts.{DraftState}
use Rattle.fs_files.specs.Calls.{files_in}
use Rattle.fs_dirs.specs.declared.lookup.Directory.{Directory}
use Rattle.fs_dirs.specs.declared.lookup.Found.{Found}

-- the inodes as a draft has them
abbrev pub inodes_in : State → DraftState → Inodes
inodes_in s d = inodes_of s.books.geom.layout (files_in s d)

-- node k is a directory
abbrev pub IsDirectory : State → DraftState → ℕ → Type 0
IsDirectory s d k = (slots : List Slot) × (inodes_in s d k ≡ Some (ADir slots))

-- how many slots a directory has; a file has none
abbrev pub slot_count : Inode → Option ℕ
slot_count (ADir slots) = Some (length slots)
slot_count (AFile links bytes) = None

-- What was found under a name: the place of the first slot that has it, and the number that this slot names. Nothing, where no slot has it.
pub record Finds (slots : List Slot) (name : List ℕ) (found : Option Found) : Type 0 where
  pub place : option_map (λ (f : Found). f.place) found ≡ place_of name slots
  pub node : option_map (λ (f : Found). f.node) found ≡ node_in slots name

-- a number of the table
pub record IsNumber (limit k : ℕ) : Type 0 where
  pub from : 1 ≤ k
  pub upto : k ≤ limit

-- What a walk to the directory above a path comes to: that directory, with as many slots as it has; nothing, for the root; or why nothing can come to be at the path.
abbrev pub EndsAtParent : Inodes → List (List ℕ) → Result (Option Directory) Refusal → Type 0
EndsAtParent m path (Ok None) = path ≡ []
EndsAtParent m path (Ok (Some dir)) = (path ≢ []) × (walk_on m 1 (parent path) ≡ Ok dir.number) × ((slots : List Slot) × (m dir.number ≡ Some (ADir slots)) × (dir.count ≡ length slots))
EndsAtParent m path (Err why) = parent_reason m path ≡ Some why
