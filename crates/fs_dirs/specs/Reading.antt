-- What the steps of reading a directory need and give.
use Rattle.std.specs.Prelude.{◌≡◌, ◌≢◌, ℕ, ◌^◌, ◌<◌, Bool, false, IsTrue, IfErr, IfNone, IfOk, IfSome, is_err, List, ◌++◌, length, take, drop, slice_get, Option, None, Some, Result, Ok}
use Rattle.std.specs.List.{All}
use Rattle.base_types.specs.declared.layout.Layout.{Layout}
use Rattle.base_types.specs.Layouts.{slots_before, slots_in_block, slot_block}
use Rattle.layout_bytes.specs.declared.slot.Slot.{Slot}
use Rattle.lang_tree.specs.declared.command.Refusal.{Refusal}
use Rattle.lang_tree.specs.Tree.{Tree}
use Rattle.lang_tree.specs.Walk.{enter}
use Rattle.crash_stands.specs.Inodes.{Inode, Inodes, ADir, inodes_of}
use Rattle.crash_stands.specs.Maps.{IsMapOf}
use Rattle.crash_stands.specs.Walks.{entry_in}
use Rattle.fs_inodes.specs.Lookups.{is_dir_inode, walk_on}
use Rattle.engine_blocks.specs.State.{State}
use Rattle.engine_blocks.specs.Puts.{IsData}
use Rattle.fs_files.specs.Asks.{MayRead}
use Rattle.fs_files.specs.Calls.{LookRefused}
use Rattle.fs_files.specs.NodeMaps.{NodeMap}
use Rattle.fs_files.specs.Content.{fails_reading}
use Rattle.fs_files.specs.Effects.{LooksOnly}
use Rattle.fs_files.specs.declared.refusal.FileRefusal.{FileRefusal}
use Rattle.fs_dirs.specs.declared.lookup.Directory.{Directory}
use Rattle.fs_dirs.specs.declared.lookup.Found.{Found}
use Rattle.fs_dirs.specs.Directories.{slot_count, Finds, IsNumber}

-- These blocks of a node may be read.
pub record MayReadBlocks (may_read : Type 0) (s : State) (node : List ℕ) : Type 0 where
  pub read : MayRead may_read s
  pub inside : All (IsData s.books.geom) node

-- A directory with these blocks has these slots.
pub record HasSlots (l : Layout) (v : NodeMap) (node : List ℕ) (slots : List Slot) : Type 0 where
  pub dir : ℕ
  pub is : inodes_of l v.files dir ≡ Some (ADir slots)
  pub blocks : node ≡ v.places dir

-- the slot at this place is the first one of a block
abbrev pub BeginsBlock : Layout → ℕ → Type 0
BeginsBlock l place = slots_before l (slot_block l place) ≡ place

-- the slots of the block that begins with a place: at most as many as a block has
abbrev pub slots_from : Layout → ℕ → List Slot → List Slot
slots_from l first slots = take (slots_in_block l) (drop first slots)

-- no slot before this place has the name
abbrev pub MissesBefore : List Slot → List ℕ → ℕ → Type 0
MissesBefore slots name first = (k : ℕ) (s : Slot) → k < first → slice_get slots k ≡ Some s → s.name ≢ name

-- A search in the blocks of a directory of so many slots has come to this place, which begins a block, and found nothing before it.
pub record HasSought (tells : Bool) (start now : State) (v : NodeMap) (node : List ℕ) (count : ℕ) (name : List ℕ) (first : ℕ) : Type 0 where
  pub looks : LooksOnly tells false start now
  pub begins : BeginsBlock start.books.geom.layout first
  pub misses : IsTrue tells → (slots : List Slot) → HasSlots start.books.geom.layout v node slots → length slots ≡ count → MissesBefore slots name first

-- This directory was read: its number is one of the table, it has so many slots, and these are its blocks, all of the data.
pub record IsOpened (tells : Bool) (s : State) (v : NodeMap) (dir : Directory) : Type 0 where
  pub number : IsNumber s.books.geom.i dir.number
  pub count : IsTrue tells → (x : Inode) → inodes_of s.books.geom.layout v.files dir.number ≡ Some x → Some dir.count ≡ slot_count x
  pub few : dir.count < 2 ^ 24
  pub blocks : IsTrue tells → dir.blocks ≡ v.places dir.number
  pub inside : All (IsData s.books.geom) dir.blocks

-- What reading node k as a directory answers, where `v` and `w` are the nodes before and after.
pub record OpensDirectory {E : Type 0} (tells : Bool) (k : ℕ) (result : Result (Option Directory) E) (s t : State) (v w : NodeMap) : Type 0 where
  -- the directory
  pub opened : IfOk result (λ found. IfSome found (λ dir. (dir.number ≡ k) × IsOpened tells t w dir))
  -- or nothing, where it has no slots to count
  pub none : IsTrue tells → IfOk result (λ found. IfNone found ((x : Inode) → inodes_of s.books.geom.layout v.files k ≡ Some x → None ≡ slot_count x))
  -- blocks are only read
  pub looks : LooksOnly tells (is_err result) s t

-- What a look for a name in directory `dir` answers, where `m` are the inodes.
pub record LooksForName (tells : Bool) (dir : ℕ) (name : List ℕ) (result : Result (Option Found) FileRefusal) (s t : State) (m : Inodes) : Type 0 where
  -- the first slot that has it, where the blocks have a map
  pub found : IsTrue tells → IfOk result (λ found. (tree : Tree) (slots : List Slot) → IsMapOf s.books.geom.i m tree → m dir ≡ Some (ADir slots) → Finds slots name found)
  -- a place of a directory, and a number of the table
  pub place : IfOk result (λ found. IfSome found (λ f. f.place < 2 ^ 24))
  pub number : IfOk result (λ found. IfSome found (λ f. IsNumber s.books.geom.i f.node))
  -- a read of the disk failed; blocks are only read
  pub refused : IfErr result LookRefused
  pub looks : LooksOnly tells (fails_reading result) s t

-- What one name more of a walk comes to: the number under the name, which is a node in use, or why there is none.
pub record EntersOn (m : Inodes) (k : ℕ) (name : List ℕ) (next : Result ℕ Refusal) : Type 0 where
  pub step : next ≡ enter (is_dir_inode (m k)) (entry_in (m k) name) Ok
  pub used : IfOk next (λ j. (x : Inode) × (m j ≡ Some x))

-- A walk has come to a node, and has these names to go.
pub record HasWalked (tells : Bool) (start now : State) (m : Inodes) (names rest : List (List ℕ)) (k : ℕ) : Type 0 where
  pub looks : LooksOnly tells false start now
  pub number : IsNumber start.books.geom.i k
  pub walks : IsTrue tells → (t : Tree) → IsMapOf start.books.geom.i m t → walk_on m 1 names ≡ walk_on m k rest
  pub used : IsTrue tells → (t : Tree) → IsMapOf start.books.geom.i m t → (x : Inode) × (m k ≡ Some x)

-- Of a directory of so many slots those before this place, which begins a block, were appended.
pub record HasListed (tells : Bool) (start now : State) (v : NodeMap) (node : List ℕ) (count first : ℕ) (before into : List Slot) : Type 0 where
  pub looks : LooksOnly tells false start now
  pub begins : BeginsBlock start.books.geom.layout first
  pub listed : IsTrue tells → (slots : List Slot) → HasSlots start.books.geom.layout v node slots → length slots ≡ count → into ≡ before ++ take first slots
