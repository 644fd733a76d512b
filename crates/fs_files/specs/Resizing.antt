-- What the steps of a resize need and leave.
use Rattle.std.specs.Prelude.{◌≡◌, ℕ, ◌-◌, ◌*◌, ◌/◌, ◌≤◌, Bool, IsTrue, not, ◌&&◌, if◌then◌else◌, List, [], length, drop, replicate, Some}
use Rattle.base_types.specs.Seal.{Blocks}
use Rattle.base_types.specs.declared.layout.Layout.{Layout}
use Rattle.layout_bytes.specs.declared.node.NodeKind.{NodeKind}
use Rattle.base_types.specs.declared.words.Class.TheVariants.{Meta}
use Rattle.engine_blocks.specs.State.{State}
use Rattle.crash_stands.specs.Files.{joined, used_node}
use Rattle.fs_files.specs.declared.nodes.OpenNode.{OpenNode}
use Rattle.fs_files.specs.Bytes.{overwrite}
use Rattle.fs_files.specs.Calls.{is_dir}
use Rattle.fs_files.specs.Content.{HasContent, WritesContent}
use Rattle.fs_files.specs.Drafts.{DraftState, drafted}
use Rattle.fs_files.specs.Nodes.{IsOpen, fills_blocks, node_block, node_of_open}
use Rattle.fs_files.specs.Sound.{IsDraftOf}

-- Node `number` was read from the draft of these blocks, with the block of the node table that it is in.
pub record IsLoaded (tells : Bool) (s : State) (d : DraftState) (number : ℕ) (node : OpenNode) (table : List ℕ) : Type 0 where
  pub from : 1 ≤ number
  pub upto : number ≤ s.books.geom.i
  pub draft : IsDraftOf tells s d
  pub fits : IsOpen s.books.geom node
  pub is : IsTrue tells → Some (node_of_open s.books.geom.layout node) ≡ used_node s.books.geom (drafted d s.map) number
  pub block : IsTrue tells → table ≡ drafted d s.map (node_block s.books.geom number)

-- The bytes from `size` on of these blocks are zeros, where they are a directory's and there is room for a slot: nothing else is new.
pub record ClearsRest (l : Layout) (kind : NodeKind) (size : ℕ) (places : List ℕ) (d e : DraftState) : Type 0 where
  pub writes : WritesContent Meta (if is_dir kind && not (fills_blocks l size) then drop (size / 1024) places else []) d e

-- what the blocks have then
pub record IsCleared (m : Blocks) (kind : NodeKind) (size : ℕ) (places : List ℕ) (d e : DraftState) : Type 0 where
  pub content : HasContent m e places
  pub bytes : joined (drafted e m) places ≡ (if is_dir kind then overwrite size (replicate (1024 * length places - size) 0) (joined (drafted d m) places) else joined (drafted d m) places)
