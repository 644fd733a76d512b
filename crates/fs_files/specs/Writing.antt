-- What a write makes of a node and a draft, step by step: the node gets blocks, the gap before its bytes gets zeros, and the bytes are written.
use Rattle.std.specs.Prelude.{◌≡◌, ◌≢◌, ◌⊎◌, ℕ, ◌+◌, ◌-◌, ◌*◌, ◌<◌, ◌≤◌, Bool, IsTrue, if◌then◌else◌, List, [], length, drop, replicate, min, max, Some}
use Rattle.base_types.specs.Seal.{Blocks}
use Rattle.crash_stands.specs.Files.{FileNode, joined, files_of}
use Rattle.engine_blocks.specs.State.{Bookkeeping}
use Rattle.layout_geometry.specs.Geometry.{Geometry}
use Rattle.base_types.specs.declared.words.Class.TheVariants.{Meta}
use Rattle.base_types.specs.declared.layout.Layout.{Layout}
use Rattle.base_types.specs.Layouts.{node_byte}
use Rattle.layout_bytes.specs.declared.node.Node.{Node}
use Rattle.layout_bytes.specs.Node.{node_spelling, FitsAs}
use Rattle.fs_files.specs.declared.nodes.OpenNode.{OpenNode}
use Rattle.fs_files.specs.Bytes.{met, overwrite}
use Rattle.fs_files.specs.Content.{HasContent, HasNewBytes, WritesContent}
use Rattle.fs_files.specs.Drafts.{DraftState, drafted, PutsBlock}
use Rattle.fs_files.specs.Growing.{edge_of, taken_by, CopiesEdges, GrowsPlaces}
use Rattle.fs_files.specs.Nodes.{class_of, node_of_open, node_block}
use Rattle.fs_files.specs.Frames.{ReadsBack}
use Rattle.fs_files.specs.Shared.{is_kept}
use Rattle.lang_tree.specs.Step.{written}
use Rattle.fs_files.specs.Calls.{IsWithFile, is_dir, with_bytes, places_of, written_blocks, ChangesAmong, Grows}

-- the open node with another size, as the node table has it
abbrev pub with_size : Layout → OpenNode → ℕ → Node
with_size l node size = node_of_open l (record node { size = size })

-- where the gap ends that gets zeros before a write from byte `off` on: none is written in a directory, which has zeros behind its bytes
abbrev pub gap_end : OpenNode → ℕ → ℕ
gap_end node off = if is_dir node.kind then node.size else off

-- The node's blocks have zeros from its end to byte `off`, where that is past it, within the first `held` of them; else nothing was done.
pub record FillsGap (tells : Bool) (m : Blocks) (off held : ℕ) (node : OpenNode) (d e : DraftState) : Type 0 where
  pub none : off ≤ node.size → e ≡ d
  pub writes : node.size < off → WritesContent (class_of node.kind) (met node.size (min off (1024 * held)) node.places) d e
  pub content : IsTrue tells → HasContent m d node.places → HasContent m e node.places
  pub bytes : IsTrue tells → HasContent m d node.places → node.size < off → joined (drafted e m) node.places ≡ overwrite node.size (replicate (min off (1024 * held) - node.size) 0) (joined (drafted d m) node.places)

-- The gap got zeros, and then these bytes were written behind it.
pub record FillsBytes (tells : Bool) (m : Blocks) (off held : ℕ) (ys : List ℕ) (node : OpenNode) (d f : DraftState) : Type 0 where
  pub filled : DraftState
  pub gap : FillsGap tells m (gap_end node off) held node d filled
  pub writes : WritesContent (class_of node.kind) (met off (off + length ys) node.places) filled f
  pub some : 0 < length ys → HasNewBytes f
  pub content : IsTrue tells → HasContent m filled node.places → HasContent m f node.places
  pub bytes : IsTrue tells → HasContent m filled node.places → joined (drafted f m) node.places ≡ overwrite off ys (joined (drafted filled m) node.places)

-- The node got blocks for bytes `lo` to `hi`, in a draft that took none before, and what the bytes don't fill of the kept ones was copied.
pub record GetsBlocks (tells : Bool) (k : Bookkeeping) (m : Blocks) (lo hi : ℕ) (old new : OpenNode) (d e : DraftState) : Type 0 where
  pub grown : DraftState
  pub first : d.taken ≡ []
  pub takes : GrowsPlaces lo hi k old new d grown
  pub copies : CopiesEdges tells m lo hi (edge_of (is_kept d.kept) lo old.places) (edge_of (is_kept d.kept) hi old.places) new grown e

-- The node has blocks for bytes `lo` to `hi`: those that it had, or it got some.
pub record HasRoom (tells : Bool) (k : Bookkeeping) (m : Blocks) (lo hi : ℕ) (old new : OpenNode) (d e : DraftState) : Type 0 where
  pub same : taken_by (is_kept d.kept) lo hi old.places ≡ 0 → (new ≡ old) × (e ≡ d)
  pub gets : 0 < taken_by (is_kept d.kept) lo hi old.places → GetsBlocks tells k m lo hi old new d e

-- All steps of a write, with the draft between them.
pub record WritesOpen (tells : Bool) (k : Bookkeeping) (m : Blocks) (off : ℕ) (ys : List ℕ) (old new : OpenNode) (d f : DraftState) : Type 0 where
  pub grown : DraftState
  pub room : HasRoom tells k m (min off old.size) (off + length ys) old new d grown
  pub fills : FillsBytes tells m off (length old.places) ys new grown f

-- The node has at least so many bytes, in its block of the node table, which has these bytes before; where it had them already and takes no blocks, nothing was done.
pub record KeepsSize (g : Geometry) (number size need : ℕ) (node : OpenNode) (table : List ℕ) (d e : DraftState) : Type 0 where
  pub same : size ≤ node.size → need ≡ 0 → e ≡ d
  pub puts : (node.size < size) ⊎ (0 < need) → PutsBlock (node_block g number) (record { class = Meta; bytes = overwrite (node_byte g.layout number) (node_spelling g.layout (with_size g.layout node (max node.size size))) table }) d e
  pub back : (node.size < size) ⊎ (0 < need) → FitsAs g (with_size g.layout node (max node.size size)) node.kind → ReadsBack g (with_size g.layout node (max node.size size))

-- What a write made of a file, in a draft of these blocks: its bytes, the blocks that it takes, and those that it changes.
pub record WritesFile (k : Bookkeeping) (m : Blocks) (number off : ℕ) (ys : List ℕ) (d e : DraftState) : Type 0 where
  pub file : (x : FileNode) → files_of k.geom (drafted d m) number ≡ Some x → IsWithFile (files_of k.geom (drafted d m)) (files_of k.geom (drafted e m)) number (Some (with_bytes x (written off ys x.bytes)))
  pub grows : (x : FileNode) → files_of k.geom (drafted d m) number ≡ Some x
      → Grows k x (places_of k.geom (drafted d m) number) (places_of k.geom (drafted e m) number) (min off (length x.bytes)) (off + length ys) d e
  pub others : (l : ℕ) → l ≢ number → places_of k.geom (drafted e m) l ≡ places_of k.geom (drafted d m) l
  pub among : (x : FileNode) → files_of k.geom (drafted d m) number ≡ Some x
      → ChangesAmong (written_blocks k.geom (is_kept d.kept) number x (places_of k.geom (drafted d m) number) (drop (length (places_of k.geom (drafted d m) number)) (places_of k.geom (drafted e m) number)) off (off + length ys)) d e
