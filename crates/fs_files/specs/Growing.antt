-- How the places of a node grow and shrink in a draft, beside blocks that are kept.
use Rattle.std.specs.Prelude.{◌≡◌, ℕ, ◌+◌, ◌-◌, ◌/◌, ◌%◌, ◌==◌, ◌≤◌, Bool, IsTrue, not, if◌then◌else◌, List, length, take, drop, get_or, slice_get, Option, None, Some, option_and_then}
use Rattle.std.specs.List.{filter}
use Rattle.base_types.specs.Seal.{Blocks}
use Rattle.base_types.specs.Layouts.{most_runs}
use Rattle.base_types.specs.declared.words.Class.{Class}
use Rattle.layout_extent.specs.Renew.{makes_way, renewals, renewed}
use Rattle.layout_extent.specs.Runs.{stretches}
use Rattle.engine_blocks.specs.State.{Bookkeeping, reusable_blocks, MayBeTaken}
use Rattle.fs_files.specs.declared.nodes.OpenNode.{OpenNode}
use Rattle.fs_files.specs.Bytes.{blocks_for}
use Rattle.fs_files.specs.Drafts.{DraftState, PutsBlock, TakesBlocks, FreesBlocks, drafted}
use Rattle.fs_files.specs.Nodes.{class_of}
use Rattle.fs_files.specs.Shared.{is_kept}

-- how many blocks a node takes for bytes `lo` to `hi`: one in the stead of each kept block that they touch, and those that it has too few
abbrev pub taken_by : (ℕ → Bool) → ℕ → ℕ → List ℕ → ℕ
taken_by kept lo hi places = renewals (makes_way (lo / 1024) (blocks_for hi) kept places) 0 places + (blocks_for hi - length places)

-- the node's blocks with these new ones: the first stand in the stead of the kept blocks that the bytes touch, and the others behind all
abbrev pub placed : (ℕ → Bool) → ℕ → ℕ → List ℕ → List ℕ → List ℕ
placed kept lo hi places more = renewed (lo / 1024) (blocks_for hi) kept places more

-- the same with as many as it takes, of these in order
abbrev pub places_after : (ℕ → Bool) → ℕ → ℕ → List ℕ → List ℕ → List ℕ
places_after kept lo hi places spare = placed kept lo hi places (take (taken_by kept lo hi places) spare)

-- those of these blocks that aren't kept
abbrev pub alone : (ℕ → Bool) → List ℕ → List ℕ
alone kept places = filter (λ b. not (kept b)) places

-- The node got blocks for bytes `lo` to `hi`: the least that may be taken, and the draft takes just these.
pub record GrowsPlaces (lo hi : ℕ) (k : Bookkeeping) (old new : OpenNode) (d e : DraftState) : Type 0 where
  pub enough : taken_by (is_kept d.kept) lo hi old.places ≤ length (reusable_blocks k)
  pub node : new ≡ record old { places = places_after (is_kept d.kept) lo hi old.places (reusable_blocks k) }
  pub runs : stretches new.places ≤ most_runs k.geom.layout
  pub takeable : MayBeTaken k.geom k.reusable (take (taken_by (is_kept d.kept) lo hi old.places) (reusable_blocks k))
  pub takes : TakesBlocks (class_of old.kind) (take (taken_by (is_kept d.kept) lo hi old.places) (reusable_blocks k)) d e

-- the kept block in which byte `at` lies, where it isn't the first one of it
abbrev pub edge_of : (ℕ → Bool) → ℕ → List ℕ → Option ℕ
edge_of kept at places = if at % 1024 == 0 then None else option_and_then (λ b. if kept b then Some b else None) (slice_get places (at / 1024))

-- Block b got the bytes that block `from` has, where they are known.
pub record CopiesBlock (tells : Bool) (m : Blocks) (class : Class) (b from : ℕ) (d e : DraftState) : Type 0 where
  pub bytes : List ℕ
  pub puts : PutsBlock b (record { class = class; bytes = bytes }) d e
  pub same : IsTrue tells → length (drafted d m from) ≡ 1024 → bytes ≡ drafted d m from

-- the same where a block is given, and else nothing
abbrev pub CopiesEdge : Bool → Blocks → Class → ℕ → Option ℕ → DraftState → DraftState → Type 0
CopiesEdge tells m class b None d e = e ≡ d
CopiesEdge tells m class b (Some from) d e = CopiesBlock tells m class b from d e

-- The node's blocks in which bytes `lo` and `hi` lie got what these blocks have, as far as they are given.
pub record CopiesEdges (tells : Bool) (m : Blocks) (lo hi : ℕ) (first last : Option ℕ) (node : OpenNode) (d e : DraftState) : Type 0 where
  pub copied : DraftState
  pub low : CopiesEdge tells m (class_of node.kind) (get_or node.places (lo / 1024) 0) first d copied
  pub high : CopiesEdge tells m (class_of node.kind) (get_or node.places (hi / 1024) 0) last copied e

-- The node kept its first blocks, and the draft frees the others but for those that are kept.
pub record ShrinksPlaces (count : ℕ) (old new : OpenNode) (d e : DraftState) : Type 0 where
  pub node : new ≡ record old { places = take count old.places }
  pub frees : FreesBlocks (alone (is_kept d.kept) (drop count old.places)) d e
