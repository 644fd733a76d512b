-- What the calls on files make of the files and of the draft. It is described in docs/FILES.md.
use Rattle.std.specs.Prelude.{◌≡◌, ◌≢◌, ℕ, ◌+◌, ◌-◌, ◌*◌, ◌/◌, ◌<◌, ◌≤◌, ◌==◌, nat_le, min, ⊤, Bool, true, false, not, ◌&&◌, ◌||◌, if◌then◌else◌, List, [], ◌∷◌, ◌++◌, length, take, drop, Option, None, Some, is_some}
use Rattle.base_types.specs.Seal.{Blocks}
use Rattle.base_types.specs.Runs.{run_places}
use Rattle.base_types.specs.Layouts.{most_runs}
use Rattle.layout_geometry.specs.Geometry.{Geometry}
use Rattle.layout_extent.specs.Runs.{stretches}
use Rattle.layout_bytes.specs.declared.node.Node.{Node}
use Rattle.layout_bytes.specs.declared.node.NodeKind.{NodeKind}
use Rattle.layout_bytes.specs.declared.node.NodeKind.TheVariants.{Free, Dir, File, Snapshot}
use Rattle.engine_blocks.specs.Running.{has}
use Rattle.engine_blocks.specs.State.{Bookkeeping, State, reusable_blocks}
use Rattle.crash_stands.specs.Files.{FileNode, Files, files_of, used_node}
use Rattle.fs_files.specs.declared.look.FileFacts.{FileFacts}
use Rattle.fs_files.specs.declared.refusal.FileRefusal.{FileRefusal}
use Rattle.fs_files.specs.declared.refusal.FileRefusal.TheVariants as refusal
use Rattle.fs_files.specs.Bytes.{blocks_for, met}
use Rattle.fs_files.specs.Drafts.{DraftState, ChangesSome, change_of, drafted}
use Rattle.fs_files.specs.Growing.{alone, places_after, taken_by}
use Rattle.fs_files.specs.Nodes.{fills_blocks, node_block}
use Rattle.fs_files.specs.Shared.{is_kept}

-- what is looked up of a file: all but its bytes
abbrev pub facts_of : FileNode → FileFacts
facts_of x = record { kind = x.kind; links = x.links; size = length x.bytes }

-- the files as a draft has them
abbrev pub files_in : State → DraftState → Files
files_in s d = files_of s.books.geom (drafted d s.map)

abbrev pub places_or_none : Option Node → List ℕ
places_or_none None = []
places_or_none (Some node) = run_places node.runs

-- the blocks of node k, in order
abbrev pub places_of : Geometry → Blocks → ℕ → List ℕ
places_of g m k = places_or_none (used_node g m k)

-- the blocks of node k, in order, as a draft has them
abbrev pub places_in : State → DraftState → ℕ → List ℕ
places_in s d k = places_of s.books.geom (drafted d s.map) k

-- the bytes that a file has in its block i: at most 1,024
abbrev pub block_bytes : FileNode → ℕ → List ℕ
block_bytes x i = take 1024 (drop (1024 * i) x.bytes)

-- a node in use
abbrev pub IsUsed : Files → ℕ → Type 0
IsUsed files k = (x : FileNode) × (files k ≡ Some x)

-- Node k became x, and no other changed.
pub record IsWithFile (old new : Files) (k : ℕ) (x : Option FileNode) : Type 0 where
  pub own : new k ≡ x
  pub others : (l : ℕ) → l ≢ k → new l ≡ old l

-- Node k has these blocks now, in order, and every other node has those that it had.
pub record IsWithPlaces (old new : ℕ → List ℕ) (k : ℕ) (places : List ℕ) : Type 0 where
  pub own : new k ≡ places
  pub others : (l : ℕ) → l ≢ k → new l ≡ old l

abbrev pub with_bytes : FileNode → List ℕ → FileNode
with_bytes x bytes = record { kind = x.kind; links = x.links; bytes = bytes }

abbrev pub with_links : FileNode → ℕ → FileNode
with_links x links = record { kind = x.kind; links = links; bytes = x.bytes }

abbrev pub is_dir : NodeKind → Bool
is_dir Free = false
is_dir Dir = true
is_dir File = false
is_dir Snapshot = false

-- each block that has new bytes in e, those of new content aside, had some in d or is one of these
abbrev pub ChangesAmong : List ℕ → DraftState → DraftState → Type 0
ChangesAmong bs d e = (b : ℕ) → is_some (change_of e.changed b) ≡ true → (has bs b || is_some (change_of d.changed b)) ≡ true

-- by how many blocks a file of so many bytes grows to so many
abbrev pub growth : ℕ → ℕ → ℕ
growth old new = blocks_for new - blocks_for old

-- The node got bytes `lo` to `hi`: it takes the least blocks that may be taken, as many as it needs, they stand where its places say, and some block changes.
pub record Grows (k : Bookkeeping) (x : FileNode) (places new_places : List ℕ) (lo hi : ℕ) (d e : DraftState) : Type 0 where
  pub enough : taken_by (is_kept d.kept) lo hi places ≤ length (reusable_blocks k)
  pub taken : e.taken ≡ d.taken ++ take (taken_by (is_kept d.kept) lo hi places) (reusable_blocks k)
  pub placed : new_places ≡ places_after (is_kept d.kept) lo hi places (reusable_blocks k)
  pub runs : stretches new_places ≤ most_runs k.geom.layout
  pub freed : e.freed ≡ d.freed
  pub fresh : length e.fresh ≤ length d.fresh + (if is_dir x.kind then 0 else taken_by (is_kept d.kept) lo hi places)
  pub changes : ChangesSome e

-- where the bytes begin that a write from byte `off` on changes: a gap before it is written too, but in a directory, which has zeros there
abbrev pub written_from : FileNode → ℕ → ℕ
written_from x off = if is_dir x.kind then off else min off (length x.bytes)

-- the blocks that a write of bytes `off` to `hi` changes, new content aside: those that it meets and that aren't kept, a directory's new ones, and the node's where it grows or gets another block
abbrev pub written_blocks : Geometry → (ℕ → Bool) → ℕ → FileNode → List ℕ → List ℕ → ℕ → ℕ → List ℕ
written_blocks g kept number x places more off hi =
    alone kept (met (written_from x off) hi places)
    ++ ((if is_dir x.kind then more else []) ++ (if nat_le hi (length x.bytes) && (taken_by kept (min off (length x.bytes)) hi places == 0) then [] else node_block g number ∷ []))

-- Node `number` changed in its block of the node table, and these blocks of its are to be freed.
pub record SetsNode (g : Geometry) (number : ℕ) (gone : List ℕ) (d e : DraftState) : Type 0 where
  pub among : ChangesAmong (node_block g number ∷ []) d e
  pub taken : e.taken ≡ d.taken
  pub freed : e.freed ≡ d.freed ++ gone
  pub fresh : length e.fresh ≤ length d.fresh

-- The node kept its first bytes: its blocks past them are to be freed but for those that are kept, and some block changes.
pub record Shrinks (x : FileNode) (places new_places : List ℕ) (size : ℕ) (d e : DraftState) : Type 0 where
  pub first : new_places ≡ take (blocks_for size) places
  pub taken : e.taken ≡ d.taken
  pub freed : e.freed ≡ d.freed ++ alone (is_kept d.kept) (drop (blocks_for size) places)
  pub fresh : length e.fresh ≤ length d.fresh
  pub changes : ChangesSome e

-- the blocks that a cut to `size` bytes changes: the node's, and a directory's last one where slots of it are cut off
abbrev pub cut_blocks : Geometry → ℕ → FileNode → List ℕ → ℕ → List ℕ
cut_blocks g number x places size =
    (if is_dir x.kind && not (fills_blocks g.layout size) then drop (size / 1024) (take (blocks_for size) places) else []) ++ node_block g number ∷ []

-- The node has another size: it grew, shrank, or has the one that it had.
pub record Resizes (k : Bookkeeping) (number : ℕ) (x : FileNode) (places new_places : List ℕ) (size : ℕ) (d e : DraftState) : Type 0 where
  pub same : size ≡ length x.bytes → e ≡ d
  pub changes : size ≢ length x.bytes → ChangesSome e
  pub grows : length x.bytes < size → Grows k x places new_places (length x.bytes) size d e
  pub grows_among : length x.bytes < size → ChangesAmong (written_blocks k.geom (is_kept d.kept) number x places (drop (length places) new_places) size size) d e
  pub shrinks : size < length x.bytes → Shrinks x places new_places size d e
  pub shrinks_among : size < length x.bytes → ChangesAmong (cut_blocks k.geom number x places size) d e

-- Why a node didn't get so many blocks, which stand with its own as said: after settling fewer may be taken; or all would lie in more runs than a node has room for; or the disk failed as it settled, since there were fewer before. The others have their counts, or are free.
abbrev pub GrowthRefused : ℕ → (List ℕ → List ℕ) → Bookkeeping → Bookkeeping → FileRefusal → Type 0
GrowthRefused n with_more old new (refusal.Short need reusable) = (need ≡ n) × (reusable ≡ length (reusable_blocks new)) × (reusable < n) × (new.waiting ≡ 0)
GrowthRefused n with_more old new (refusal.Scattered runs) = (runs ≡ stretches (with_more (take n (reusable_blocks new)))) × (most_runs old.geom.layout < runs) × (n ≤ length (reusable_blocks new))
GrowthRefused n with_more old new refusal.DiskFault = length (reusable_blocks old) < n
GrowthRefused n with_more old new refusal.ReadFault = ⊤
GrowthRefused n with_more old new refusal.NoMemory = ⊤

-- a call that doesn't grow is refused by a read or out of memory alone
abbrev pub LookRefused : FileRefusal → Type 0
LookRefused (refusal.Short need reusable) = ⊥
LookRefused (refusal.Scattered runs) = ⊥
LookRefused refusal.DiskFault = ⊥
LookRefused refusal.ReadFault = ⊤
LookRefused refusal.NoMemory = ⊤

-- k is the least number that isn't in use, of those up to the limit
pub record IsLeastUnused (limit : ℕ) (files : Files) (k : ℕ) : Type 0 where
  pub from : 1 ≤ k
  pub upto : k ≤ limit
  pub unused : files k ≡ None
  pub below : (l : ℕ) → 1 ≤ l → l < k → IsUsed files l

-- the nodes from one number to another, which isn't one of them, are in use
abbrev pub AreUsed : Geometry → Blocks → ℕ → ℕ → Type 0
AreUsed g m from upto = (l : ℕ) → from ≤ l → l < upto → is_some (used_node g m l) ≡ true

-- the first node from a number on that isn't in use
pub record IsFirstUnused (g : Geometry) (m : Blocks) (from number : ℕ) : Type 0 where
  pub above : from ≤ number
  pub unused : used_node g m number ≡ None
  pub below : AreUsed g m from number
