-- What the calls on the files of a draft ask. It is described in docs/FILES.md.
use Rattle.std.specs.Prelude.{◌≡◌, ℕ, ◌<◌, ◌≤◌, ◌^◌, Bool, false, IsTrue, [], length, min, Some}
use Rattle.layout_bytes.specs.declared.node.NodeKind.TheVariants.{Dir}
use Rattle.crash_stands.specs.Files.{FileNode}
use Rattle.engine_blocks.specs.Calls.{HasTurns}
use Rattle.engine_blocks.specs.State.{State}
use Rattle.fs_files.specs.Calls.{files_in, places_in}
use Rattle.fs_files.specs.Drafts.{DraftState}
use Rattle.fs_files.specs.Growing.{taken_by}
use Rattle.fs_files.specs.Nodes.{MayEndAt}
use Rattle.fs_files.specs.Shared.{is_kept}
use Rattle.fs_files.specs.Sound.{IsDraftOf}

-- Nodes may be read over these blocks: the disk hasn't failed, and this holds of the nodes.
pub record MayRead (may_read : Type 0) (s : State) : Type 0 where
  pub going : s.books.stopped ≡ false
  pub may : may_read

-- Node `number` may be looked at over these blocks, where its nodes may be read if this holds.
pub record MayLookAt (may_read : Type 0) (s : State) (number : ℕ) : Type 0 where
  -- the disk hasn't failed
  pub going : s.books.stopped ≡ false
  -- it is a number of the table
  pub from : 1 ≤ number
  pub upto : number ≤ s.books.geom.i
  -- and the nodes may be read
  pub may : may_read

-- Node `number` may be looked at in this draft, which is one of these blocks.
abbrev pub MayLook : Bool → State → DraftState → ℕ → Type 0
MayLook tells s d number = MayLookAt (IsDraftOf tells s d) s number

-- Node `number` may get bytes up to `hi`, from `lo` on or from its end on where that comes before, where it is in use.
pub record MayGrow (tells : Bool) (s : State) (d : DraftState) (number lo hi : ℕ) : Type 0 where
  -- the pipeline may settle
  pub turns : HasTurns s.books
  -- no file has more bytes
  pub size : hi ≤ 2 ^ 30
  -- one call of a draft takes blocks, and where bytes are new this is it, if it needs some
  pub once : IsTrue tells → (x : FileNode) → files_in s d number ≡ Some x → min lo (length x.bytes) < hi → 0 < taken_by (is_kept d.kept) (min lo (length x.bytes)) hi (places_in s d number) → d.taken ≡ []

-- Node `number` may be cut to its first `count` bytes, where it is in use.
pub record MayCut (tells : Bool) (s : State) (d : DraftState) (number count : ℕ) : Type 0 where
  pub size : count ≤ 2 ^ 30
  -- a directory keeps whole slots, and where it has room for no slot in its last block it has zeros behind them
  pub slots : IsTrue tells → (x : FileNode) → files_in s d number ≡ Some x → x.kind ≡ Dir → MayEndAt s.books.geom.layout x.bytes count
  -- it has more bytes
  pub shorter : IsTrue tells → (x : FileNode) → files_in s d number ≡ Some x → count < length x.bytes
