-- Which drafts fit a map of blocks, and when its blocks are sound with them. It is described in docs/FILES.md.
use Rattle.std.specs.Prelude.{◌≡◌, ◌≢◌, ◌↔◌, ◌⊎◌, ℕ, ◌*◌, ◌<◌, ◌≤◌, Bool, true, false, IsTrue, ◌||◌, List, length, replicate, None, Some, is_some}
use Rattle.std.specs.List.{All, AllPairs}
use Rattle.base_types.specs.Runs.{run_places}
use Rattle.base_types.specs.Seal.{Blocks}
use Rattle.layout_geometry.specs.Geometry.{Geometry, table_start, data_start, bitmap_blocks}
use Rattle.layout_bytes.specs.declared.node.Node.{Node}
use Rattle.layout_bytes.specs.declared.node.NodeKind.TheVariants.{Dir, File, Snapshot}
use Rattle.layout_bytes.specs.Bitmap.{is_set}
use Rattle.layout_bytes.specs.Bytes.{are_zeros}
use Rattle.layout_bytes.specs.Node.{node_size, node_at, node_bytes}
use Rattle.layout_journal.specs.Run.{is_live}
use Rattle.engine_blocks.specs.Running.{has, HasNoBare}
use Rattle.engine_blocks.specs.State.{Bookkeeping, State, MayBeTaken}
use Rattle.engine_blocks.specs.Puts.{IsData}
use Rattle.crash_stands.specs.Files.{used_node, past_content}
use Rattle.crash_stands.specs.Sharing.{IsKeptBlock, IsSoundKept}
use Rattle.crash_stands.specs.Stands.{HasBlock}
use Rattle.fs_files.specs.declared.changes.Changed.{Changed}
use Rattle.fs_files.specs.Shared.{is_kept}
use Rattle.fs_files.specs.Drafts.{DraftState, ChangesSome, change_of, drafted, marks_of}

-- Blocks with these marks are sound: each node has its blocks to itself, of the data just these are marked, and what carries nothing is zeros.
pub record AreSoundBy (g : Geometry) (marks : ℕ → Bool) (m : Blocks) : Type 0 where
  pub table : (b : ℕ) → table_start g ≤ b → b < data_start g → length (m b) ≡ 1024
  pub «data» : (b : ℕ) → data_start g ≤ b → b < g.n → marks b ≡ true → length (m b) ≡ 1024
  pub own : (k l i j b : ℕ) → HasBlock g m k i b → HasBlock g m l j b → (k ≡ l) × (i ≡ j)
  pub marked : (b : ℕ) → data_start g ≤ b → b < g.n → (marks b ≡ true) ↔ ((k : ℕ) × (i : ℕ) × HasBlock g m k i b)
  pub free : (k : ℕ) → 1 ≤ k → k ≤ g.i → node_at g m k ≡ None → node_bytes g m k ≡ replicate (node_size g.layout) 0
  pub tail : (k : ℕ) (node : Node) → used_node g m k ≡ Some node → node.kind ≡ Dir → IsTrue (are_zeros (past_content g.layout m node))

-- something is put into the block, or it is freed
abbrev pub is_filled : DraftState → ℕ → Bool
is_filled d b = has d.freed b || (is_some (change_of d.changed b) || is_some (change_of d.fresh b))

-- The draft may be finished on such a bookkeeping: it changes blocks of the node table and the data, what it takes may be taken, and each block that it takes is filled or freed.
pub record FitsBooks (k : Bookkeeping) (d : DraftState) : Type 0 where
  pub none_bare : HasNoBare k.running
  pub changed : (b : ℕ) (c : Changed) → change_of d.changed b ≡ Some c → (table_start k.geom ≤ b) × (b < k.geom.n)
  pub fresh : (b : ℕ) (c : Changed) → change_of d.fresh b ≡ Some c → has d.taken b ≡ true
  pub taken : MayBeTaken k.geom k.reusable d.taken
  pub filled : (b : ℕ) → has d.taken b ≡ true → is_filled d b ≡ true
  pub freed : All (IsData k.geom) d.freed

-- Blocks are sound beside those that snapshots keep: as `AreSound`, but that a kept block of the data is marked too, and that a node which has one is a file.
pub record AreSoundBeside (g : Geometry) (kept : ℕ → Bool) (m : Blocks) : Type 0 where
  pub whole : (b : ℕ) → IsTrue (is_live g m b) → length (m b) ≡ 1024
  pub own : (k l i j b : ℕ) → HasBlock g m k i b → HasBlock g m l j b → (k ≡ l) × (i ≡ j)
  pub fixed : (b : ℕ) → b < data_start g → IsTrue (is_set g m b)
  pub marked : (b : ℕ) → data_start g ≤ b → b < g.n → IsTrue (is_set g m b) ↔ (((k : ℕ) × (i : ℕ) × HasBlock g m k i b) ⊎ (kept b ≡ true))
  pub inside : (b : ℕ) → kept b ≡ true → IsData g b
  pub shared : (b k i : ℕ) (node : Node) → kept b ≡ true → HasBlock g m k i b → used_node g m k ≡ Some node → node.kind ≡ File
  pub past : (b : ℕ) → g.n ≤ b → b < 8192 * bitmap_blocks g → is_set g m b ≡ false
  pub free : (k : ℕ) → 1 ≤ k → k ≤ g.i → node_at g m k ≡ None → node_bytes g m k ≡ replicate (node_size g.layout) 0
  pub tail : (k : ℕ) (node : Node) → used_node g m k ≡ Some node → node.kind ≡ Dir → IsTrue (are_zeros (past_content g.layout m node))

-- These blocks are different ones, none of them is kept, and no node has one.
pub record AreApartFrom (g : Geometry) (m : Blocks) (kept bs : List ℕ) : Type 0 where
  pub once : AllPairs (λ a b. a ≢ b) bs
  pub unkept : All (λ b. is_kept kept b ≡ false) bs
  pub bare : (k i b : ℕ) → has bs b ≡ true → HasBlock g m k i b → ⊥

-- The test holds for just the blocks that snapshots keep.
abbrev pub TellsKept : Geometry → (ℕ → Bool) → Blocks → Type 0
TellsKept g kept m = (b : ℕ) → (kept b ≡ true) ↔ IsKeptBlock g m b

-- each snapshot is sound
abbrev pub HasSoundKept : Geometry → Blocks → Type 0
HasSoundKept g m = (k : ℕ) (node : Node) → used_node g m k ≡ Some node → node.kind ≡ Snapshot → IsSoundKept g m (run_places node.runs)

-- The blocks are sound with the draft's changes. Marked are the blocks that nodes have and those that are kept. A kept block stays as it was, and is a file's if a node has it.
-- No freed block has bytes, new content has no other change beside it, and each block is freed once and was marked or taken.
pub record IsSoundDraft (k : Bookkeeping) (m : Blocks) (d : DraftState) : Type 0 where
  -- the blocks that nodes have
  pub live : ℕ → Bool
  pub blocks : AreSoundBy k.geom live (drafted d m)
  pub bits : (b : ℕ) → data_start k.geom ≤ b → b < k.geom.n → marks_of d k.marked b ≡ (live b || is_kept d.kept b)
  pub untouched : (b : ℕ) → is_kept d.kept b ≡ true → IsData k.geom b × (k.marked b ≡ true) × (is_filled d b ≡ false)
  pub shared : (b n i : ℕ) (node : Node) → is_kept d.kept b ≡ true → HasBlock k.geom (drafted d m) n i b → used_node k.geom (drafted d m) n ≡ Some node → node.kind ≡ File
  pub changed : (b : ℕ) (c : Changed) → change_of d.changed b ≡ Some c → data_start k.geom ≤ b → live b ≡ true
  pub fresh : (b : ℕ) (c : Changed) → change_of d.fresh b ≡ Some c → has d.freed b ≡ false
  pub apart : (b : ℕ) → is_some (change_of d.fresh b) ≡ true → change_of d.changed b ≡ None
  pub freed : All (λ b. (has d.taken b || k.marked b) ≡ true) d.freed
  pub once : AllPairs (λ a b. a ≢ b) d.freed

-- The draft is one of these blocks: it fits their bookkeeping, where they are known they are sound with it, and where it has new content it changes a block too.
pub record IsDraftOf (tells : Bool) (s : State) (d : DraftState) : Type 0 where
  pub fits : FitsBooks s.books d
  pub sound : IsTrue tells → IsSoundDraft s.books s.map d
  pub content : (b : ℕ) → is_some (change_of d.fresh b) ≡ true → ChangesSome d
