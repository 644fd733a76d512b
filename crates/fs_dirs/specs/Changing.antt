-- What the calls that change a directory make of a draft, and what each of them does. They are described in docs/DIRECTORIES.md.
use Rattle.std.specs.Prelude.{◌≡◌, ◌≢◌, ℕ, ◌+◌, ◌-◌, ◌<◌, ◌≤◌, Bool, IsTrue, List, [], ◌∷◌, ◌++◌, length, take, set, Some, Result, IfErr, OnOk}
use Rattle.base_types.specs.declared.layout.Layout.{Layout}
use Rattle.layout_extent.specs.Runs.{stretches}
use Rattle.layout_bytes.specs.declared.slot.Slot.{Slot}
use Rattle.layout_directory.specs.Directory.{without_at}
use Rattle.base_types.specs.Layouts.{directory_blocks, most_runs}
use Rattle.lang_tree.specs.Figures.{growth, release}
use Rattle.crash_stands.specs.Files.{Files}
use Rattle.crash_stands.specs.Inodes.{ADir, inodes_of}
use Rattle.fs_inodes.specs.Changes.{Sets}
use Rattle.engine_blocks.specs.State.{State, reusable_blocks}
use Rattle.fs_files.specs.declared.refusal.FileRefusal.{FileRefusal}
use Rattle.fs_files.specs.Calls.{files_in, places_in, ChangesAmong, IsUsed, IsWithPlaces, GrowthRefused, LookRefused}
use Rattle.fs_files.specs.Content.{fails_reading, fails_settling}
use Rattle.fs_files.specs.Drafts.{DraftState, ChangesSome}
use Rattle.fs_files.specs.Effects.{LooksOnly, LooksAndSettles}
use Rattle.fs_files.specs.Sound.{IsDraftOf}
use Rattle.fs_dirs.specs.Directories.{inodes_in}

-- node k is a directory that has this place
abbrev pub HasPlace : State → DraftState → ℕ → ℕ → Type 0
HasPlace s d k place = (slots : List Slot) × (inodes_in s d k ≡ Some (ADir slots)) × (place < length slots)

-- node k is a directory with so many slots
abbrev pub HasCount : State → DraftState → ℕ → ℕ → Type 0
HasCount s d k count = (slots : List Slot) × (inodes_in s d k ≡ Some (ADir slots)) × (count ≡ length slots)

-- Node k is a directory with these slots now, and no other node changed.
pub record IsWithSlots (l : Layout) (old new : Files) (k : ℕ) (slots : List Slot) : Type 0 where
  pub inodes : Sets (inodes_of l old) (inodes_of l new) k (Some (ADir slots))
  pub others : (n : ℕ) → n ≢ k → new n ≡ old n

-- at most so many blocks have new bytes in e that had none in d, those of new content aside
abbrev pub ChangesAtMost : ℕ → DraftState → DraftState → Type 0
ChangesAtMost most d e = (bs : List ℕ) × (length bs ≤ most) × ChangesAmong bs d e

-- The draft changes at most so many blocks more, and some; it takes these numbers too, frees so many more, and has no more new content.
pub record Alters (most : ℕ) (takes : List ℕ) (frees : ℕ) (d e : DraftState) : Type 0 where
  pub among : ChangesAtMost most d e
  pub some : ChangesSome e
  pub taken : e.taken ≡ d.taken ++ takes
  pub freed : length e.freed ≡ length d.freed + frees
  pub fresh : length e.fresh ≤ length d.fresh

-- In each of these, `s` and `t` are the blocks and `d` and `e` the draft before and after the call.

-- What `add_slot` does: directory `dir` has this slot too, behind the last one.
pub record AddsSlot {T : Type 0} (tells : Bool) (dir : ℕ) (slot : Slot) (result : Result T FileRefusal) (s t : State) (d e : DraftState) : Type 0 where
  -- no other node changed, and what was in use still is
  pub slots : IsTrue tells → OnOk result ((slots : List Slot) → inodes_in s d dir ≡ Some (ADir slots) → IsWithSlots s.books.geom.layout (files_in s d) (files_in t e) dir (slots ++ slot ∷ []))
  pub used : IsTrue tells → OnOk result ((l : ℕ) → IsUsed (files_in s d) l → IsUsed (files_in t e) l)
  -- its blocks are those that it had, and behind them the least that may be taken, where it grows
  pub places : IsTrue tells → OnOk result ((slots : List Slot) → inodes_in s d dir ≡ Some (ADir slots)
      → IsWithPlaces (places_in s d) (places_in t e) dir (places_in s d dir ++ take (growth s.books.geom.layout (length slots)) (reusable_blocks t.books)))
  -- the draft is one of the blocks as they are then, beside the same kept blocks
  pub draft : OnOk result (IsDraftOf tells t e)
  pub kept : OnOk result (e.kept ≡ d.kept)
  -- so many may be taken, and the directory has no more runs than its layout has room for
  pub room : IsTrue tells → OnOk result ((slots : List Slot) → inodes_in s d dir ≡ Some (ADir slots) → growth s.books.geom.layout (length slots) ≤ length (reusable_blocks t.books))
  pub runs : IsTrue tells → OnOk result ((slots : List Slot) → inodes_in s d dir ≡ Some (ADir slots) → stretches (places_in s d dir ++ take (growth s.books.geom.layout (length slots)) (reusable_blocks t.books)) ≤ most_runs s.books.geom.layout)
  -- it changes two blocks at most, and takes those
  pub alters : IsTrue tells → OnOk result ((slots : List Slot) → inodes_in s d dir ≡ Some (ADir slots) → Alters 2 (take (growth s.books.geom.layout (length slots)) (reusable_blocks t.books)) 0 d e)
  -- why it is refused
  pub refused : IsTrue tells → IfErr result (λ why. (slots : List Slot) → inodes_in s d dir ≡ Some (ADir slots) → GrowthRefused (growth s.books.geom.layout (length slots)) (λ more. places_in s d dir ++ more) s.books t.books why)
  -- what becomes of the blocks: where enough may be taken they are only read
  pub settles : LooksAndSettles tells (fails_reading result) (fails_settling result) s t
  pub looks : IsTrue tells → (slots : List Slot) → inodes_in s d dir ≡ Some (ADir slots) → growth s.books.geom.layout (length slots) ≤ length (reusable_blocks s.books) → LooksOnly tells (fails_reading result) s t

-- What `set_slot` does: the slot at a place of directory `dir` is another one.
pub record SetsSlot {T : Type 0} (tells : Bool) (dir place : ℕ) (slot : Slot) (result : Result T FileRefusal) (s t : State) (d e : DraftState) : Type 0 where
  -- no other node changed
  pub slots : IsTrue tells → OnOk result ((slots : List Slot) → inodes_in s d dir ≡ Some (ADir slots) → IsWithSlots s.books.geom.layout (files_in s d) (files_in t e) dir (set slots place slot))
  -- it has the blocks that it had
  pub places : IsTrue tells → OnOk result (IsWithPlaces (places_in s d) (places_in t e) dir (places_in s d dir))
  -- the draft is one of the blocks as they are then, beside the same kept blocks
  pub draft : OnOk result (IsDraftOf tells t e)
  pub kept : OnOk result (e.kept ≡ d.kept)
  -- it changes one block
  pub alters : IsTrue tells → OnOk result (Alters 1 [] 0 d e)
  -- a read of the disk failed, or it is out of memory; blocks are only read
  pub refused : IfErr result LookRefused
  pub looks : LooksOnly tells (fails_reading result) s t

-- What `take_slot` does: the slot at a place of directory `dir` is out, and the last one is in its place.
pub record TakesSlot {T : Type 0} (tells : Bool) (dir place : ℕ) (result : Result T FileRefusal) (s t : State) (d e : DraftState) : Type 0 where
  -- no other node changed
  pub slots : IsTrue tells → OnOk result ((slots : List Slot) → inodes_in s d dir ≡ Some (ADir slots) → IsWithSlots s.books.geom.layout (files_in s d) (files_in t e) dir (without_at place slots))
  -- it has the first of its blocks, as many as one slot less needs
  pub places : IsTrue tells → OnOk result ((slots : List Slot) → inodes_in s d dir ≡ Some (ADir slots)
      → IsWithPlaces (places_in s d) (places_in t e) dir (take (directory_blocks s.books.geom.layout (length slots - 1)) (places_in s d dir)))
  -- the draft is one of the blocks as they are then, beside the same kept blocks
  pub draft : OnOk result (IsDraftOf tells t e)
  pub kept : OnOk result (e.kept ≡ d.kept)
  -- it changes three blocks at most, and frees one where it needs one less
  pub alters : IsTrue tells → OnOk result ((slots : List Slot) → inodes_in s d dir ≡ Some (ADir slots) → Alters 3 [] (release s.books.geom.layout (length slots)) d e)
  -- a read of the disk failed, or it is out of memory; blocks are only read
  pub refused : IfErr result LookRefused
  pub looks : LooksOnly tells (fails_reading result) s t

-- What a cut of directory `dir` to its first `count` slots does, which are fewer than it has.
pub record CutsSlots {T : Type 0} (tells : Bool) (dir count : ℕ) (result : Result T FileRefusal) (s t : State) (d e : DraftState) : Type 0 where
  -- no other node changed
  pub slots : IsTrue tells → OnOk result ((slots : List Slot) → inodes_in s d dir ≡ Some (ADir slots) → IsWithSlots s.books.geom.layout (files_in s d) (files_in t e) dir (take count slots))
  -- it has the first of its blocks, as many as these slots need
  pub places : IsTrue tells → OnOk result (IsWithPlaces (places_in s d) (places_in t e) dir (take (directory_blocks s.books.geom.layout count) (places_in s d dir)))
  -- the draft is one of the blocks as they are then, beside the same kept blocks
  pub draft : OnOk result (IsDraftOf tells t e)
  pub kept : OnOk result (e.kept ≡ d.kept)
  -- it changes two blocks at most, and frees the others of its own
  pub alters : IsTrue tells → OnOk result ((slots : List Slot) → inodes_in s d dir ≡ Some (ADir slots) → Alters 2 [] (directory_blocks s.books.geom.layout (length slots) - directory_blocks s.books.geom.layout count) d e)
  -- a read of the disk failed, or it is out of memory; blocks are only read
  pub refused : IfErr result LookRefused
  pub looks : LooksOnly tells (fails_reading result) s t
