-- What each call that changes a file of a draft does, and what it leaves where it is refused. It is described in docs/FILES.md.
-- In each of these, `s` and `t` are the blocks and `d` and `e` the draft before and after the call.
use Rattle.std.specs.Prelude.{◌≡◌, ℕ, ◌+◌, ◌<◌, ◌≤◌, Bool, IsTrue, List, [], length, take, drop, min, Option, None, Some, Result, IfOk, IfErr, IfSome, IfNone, OnOk}
use Rattle.layout_bytes.specs.declared.node.NodeKind.{NodeKind}
use Rattle.lang_tree.specs.Step.{resized}
use Rattle.crash_stands.specs.Files.{FileNode}
use Rattle.engine_blocks.specs.State.{State, reusable_blocks}
use Rattle.fs_files.specs.declared.refusal.FileRefusal.{FileRefusal}
use Rattle.fs_files.specs.Bytes.{blocks_for, met, overwritten}
use Rattle.fs_files.specs.Calls.{files_in, places_in, IsUsed, IsWithFile, IsWithPlaces, with_bytes, with_links, ChangesAmong, Grows, Shrinks, Resizes, SetsNode}
use Rattle.fs_files.specs.Calls.{written_blocks, cut_blocks, GrowthRefused, LookRefused, IsLeastUnused}
use Rattle.fs_files.specs.Content.{fails_reading, fails_settling}
use Rattle.fs_files.specs.Drafts.{DraftState, ChangesSome}
use Rattle.fs_files.specs.Growing.{alone, placed, places_after, taken_by}
use Rattle.fs_files.specs.Shared.{is_kept}
use Rattle.fs_files.specs.Effects.{LooksOnly, LooksAndSettles}
use Rattle.fs_files.specs.Sound.{IsDraftOf}
use Rattle.fs_files.specs.Within.{Overwrites}

-- What `Draft::write_at` does: bytes ys are written into node `number` from byte `off` on.
pub record WritesAt {T : Type 0} (tells : Bool) (number off : ℕ) (ys : List ℕ) (result : Result T FileRefusal) (s t : State) (d e : DraftState) : Type 0 where
  -- the node has the new bytes, and no other node changed
  pub file : IsTrue tells → OnOk result ((x : FileNode) → files_in s d number ≡ Some x → IsWithFile (files_in s d) (files_in t e) number (Some (with_bytes x (overwritten off ys x.bytes))))
  -- no bytes change nothing
  pub nothing : length ys ≡ 0 → OnOk result (e ≡ d)
  -- its blocks are those that it had, with the least that may be taken in the stead of the kept ones that the bytes touch, and behind all
  pub places : IsTrue tells → OnOk result ((x : FileNode) → files_in s d number ≡ Some x → 0 < length ys
      → IsWithPlaces (places_in s d) (places_in t e) number (places_after (is_kept d.kept) (min off (length x.bytes)) (off + length ys) (places_in s d number) (reusable_blocks t.books)))
  -- the draft is one of the blocks as they are then, beside the same kept blocks
  pub draft : OnOk result (IsDraftOf tells t e)
  pub kept : OnOk result (e.kept ≡ d.kept)
  -- what it takes and frees
  pub grows : IsTrue tells → OnOk result ((x : FileNode) → files_in s d number ≡ Some x → 0 < length ys
      → Grows t.books x (places_in s d number) (places_in t e number) (min off (length x.bytes)) (off + length ys) d e)
  -- which blocks it changes, and that it changes one
  pub among : IsTrue tells → OnOk result ((x : FileNode) → files_in s d number ≡ Some x
      → 0 < length ys
      → ChangesAmong (written_blocks s.books.geom (is_kept d.kept) number x (places_in s d number) (drop (length (places_in s d number)) (places_in t e number)) off (off + length ys)) d e)
  pub changes : IsTrue tells → OnOk result (0 < length ys → ChangesSome e)
  -- why it is refused
  pub refused : IsTrue tells → IfErr result (λ why. (x : FileNode) → files_in s d number ≡ Some x
      → GrowthRefused (taken_by (is_kept d.kept) (min off (length x.bytes)) (off + length ys) (places_in s d number)) (placed (is_kept d.kept) (min off (length x.bytes)) (off + length ys) (places_in s d number)) s.books t.books why)
  -- what becomes of the blocks: where enough may be taken they are only read
  pub settles : LooksAndSettles tells (fails_reading result) (fails_settling result) s t
  pub looks : IsTrue tells → (x : FileNode) → files_in s d number ≡ Some x
      → taken_by (is_kept d.kept) (min off (length x.bytes)) (off + length ys) (places_in s d number) ≤ length (reusable_blocks s.books) → LooksOnly tells (fails_reading result) s t

-- What `Draft::resize` does: node `number` has `size` bytes then.
pub record ResizesFile {T : Type 0} (tells : Bool) (number size : ℕ) (result : Result T FileRefusal) (s t : State) (d e : DraftState) : Type 0 where
  -- its first bytes, and zeros where it grows; no other node changed
  pub file : IsTrue tells → OnOk result ((x : FileNode) → files_in s d number ≡ Some x → IsWithFile (files_in s d) (files_in t e) number (Some (with_bytes x (resized size x.bytes))))
  -- its first blocks; or its blocks with the least that may be taken, in the stead of its last one where that is kept and has new bytes, and behind all
  pub cut : IsTrue tells → OnOk result ((x : FileNode) → files_in s d number ≡ Some x → size ≤ length x.bytes
      → IsWithPlaces (places_in s d) (places_in t e) number (take (blocks_for size) (places_in s d number)))
  pub places : IsTrue tells → OnOk result ((x : FileNode) → files_in s d number ≡ Some x → length x.bytes < size
      → IsWithPlaces (places_in s d) (places_in t e) number (places_after (is_kept d.kept) (length x.bytes) size (places_in s d number) (reusable_blocks t.books)))
  -- the draft is one of the blocks as they are then, beside the same kept blocks
  pub draft : OnOk result (IsDraftOf tells t e)
  pub kept : OnOk result (e.kept ≡ d.kept)
  -- what it takes and frees, and which blocks it changes
  pub resizes : IsTrue tells → OnOk result ((x : FileNode) → files_in s d number ≡ Some x → Resizes t.books number x (places_in s d number) (places_in t e number) size d e)
  -- why it is refused
  pub refused : IsTrue tells → IfErr result (λ why. (x : FileNode) → files_in s d number ≡ Some x → length x.bytes < size
      → GrowthRefused (taken_by (is_kept d.kept) (length x.bytes) size (places_in s d number)) (placed (is_kept d.kept) (length x.bytes) size (places_in s d number)) s.books t.books why)
  pub cut_refused : IsTrue tells → IfErr result (λ why. (x : FileNode) → files_in s d number ≡ Some x → size ≤ length x.bytes → LookRefused why)
  -- what becomes of the blocks: where enough may be taken they are only read
  pub settles : LooksAndSettles tells (fails_reading result) (fails_settling result) s t
  pub looks : IsTrue tells → (x : FileNode) → files_in s d number ≡ Some x
      → (length x.bytes < size → taken_by (is_kept d.kept) (length x.bytes) size (places_in s d number) ≤ length (reusable_blocks s.books)) → LooksOnly tells (fails_reading result) s t

-- What `Draft::cut_to` does: node `number` keeps its first `size` bytes, fewer than it has.
pub record CutsFile {T : Type 0} (tells : Bool) (number size : ℕ) (result : Result T FileRefusal) (s t : State) (d e : DraftState) : Type 0 where
  -- no other node changed
  pub file : IsTrue tells → OnOk result ((x : FileNode) → files_in s d number ≡ Some x → IsWithFile (files_in s d) (files_in t e) number (Some (with_bytes x (resized size x.bytes))))
  -- it has the first of its blocks
  pub places : IsTrue tells → OnOk result (IsWithPlaces (places_in s d) (places_in t e) number (take (blocks_for size) (places_in s d number)))
  -- the draft is one of the blocks as they are then, beside the same kept blocks
  pub draft : OnOk result (IsDraftOf tells t e)
  pub kept : OnOk result (e.kept ≡ d.kept)
  -- the others are to be freed but for those that are kept
  pub shrinks : IsTrue tells → OnOk result ((x : FileNode) → files_in s d number ≡ Some x → Shrinks x (places_in s d number) (places_in t e number) size d e)
  -- which blocks it changes
  pub among : IsTrue tells → OnOk result ((x : FileNode) → files_in s d number ≡ Some x → ChangesAmong (cut_blocks s.books.geom number x (places_in s d number) size) d e)
  -- a read of the disk failed, or it is out of memory; blocks are only read
  pub refused : IfErr result LookRefused
  pub looks : LooksOnly tells (fails_reading result) s t

-- What `Draft::overwrite` does: bytes ys are written over those of node `number` from byte `off` on, all within its size.
pub record OverwritesFile {T : Type 0} (tells : Bool) (number off : ℕ) (ys : List ℕ) (result : Result T FileRefusal) (s t : State) (d e : DraftState) : Type 0 where
  -- the node has the new bytes, and no other node changed
  pub file : IsTrue tells → OnOk result ((x : FileNode) → files_in s d number ≡ Some x → IsWithFile (files_in s d) (files_in t e) number (Some (with_bytes x (overwritten off ys x.bytes))))
  -- it has the blocks that it had
  pub places : IsTrue tells → OnOk result (IsWithPlaces (places_in s d) (places_in t e) number (places_in s d number))
  -- the draft is one of the blocks as they are then, beside the same kept blocks
  pub draft : OnOk result (IsDraftOf tells t e)
  pub kept : OnOk result (e.kept ≡ d.kept)
  -- it changes blocks that the bytes meet, and takes and frees none
  pub overwrites : IsTrue tells → OnOk result (Overwrites (met off (off + length ys) (places_in s d number)) d e)
  -- and one, where there are bytes
  pub changes : IsTrue tells → OnOk result (0 < length ys → ChangesSome e)
  -- a read of the disk failed, or it is out of memory; blocks are only read
  pub refused : IfErr result LookRefused
  pub looks : LooksOnly tells (fails_reading result) s t

-- What `Draft::new_node` does: it answers the least node that isn't in use, which is one of this kind then.
pub record MakesNode (tells : Bool) (kind : NodeKind) (result : Result (Option ℕ) FileRefusal) (s t : State) (d e : DraftState) : Type 0 where
  -- the node has no bytes and one link, and no other node changed
  pub node : IsTrue tells → IfOk result (λ found. IfSome found (λ number. IsLeastUnused s.books.geom.i (files_in s d) number
      × IsWithFile (files_in s d) (files_in t e) number (Some (record { kind = kind; links = 1; bytes = [] }))))
  -- nor has it blocks
  pub places : IsTrue tells → IfOk result (λ found. IfSome found (λ number. IsWithPlaces (places_in s d) (places_in t e) number []))
  -- none, where all are in use
  pub none : IsTrue tells → IfOk result (λ found. IfNone found (((l : ℕ) → 1 ≤ l → l ≤ s.books.geom.i → IsUsed (files_in s d) l) × (e ≡ d)))
  -- a number of the table
  pub number : IfOk result (λ found. IfSome found (λ number. (1 ≤ number) × (number ≤ s.books.geom.i)))
  -- the draft is one of the blocks as they are then, beside the same kept blocks
  pub draft : OnOk result (IsDraftOf tells t e)
  pub kept : OnOk result (e.kept ≡ d.kept)
  -- the node's block of the table changes alone, and it does
  pub among : IfOk result (λ found. IfSome found (λ number. SetsNode s.books.geom number [] d e))
  pub changes : IfOk result (λ found. IfSome found (λ number. ChangesSome e))
  -- a read of the disk failed, or it is out of memory; blocks are only read
  pub refused : IfErr result LookRefused
  pub looks : LooksOnly tells (fails_reading result) s t

-- What `Draft::drop_node` does: node `number` isn't in use any more.
pub record DropsNode {T : Type 0} (tells : Bool) (number : ℕ) (result : Result T FileRefusal) (s t : State) (d e : DraftState) : Type 0 where
  -- no other node changed
  pub file : IsTrue tells → OnOk result (IsWithFile (files_in s d) (files_in t e) number None)
  pub places : IsTrue tells → OnOk result (IsWithPlaces (places_in s d) (places_in t e) number [])
  -- the draft is one of the blocks as they are then, beside the same kept blocks
  pub draft : OnOk result (IsDraftOf tells t e)
  pub kept : OnOk result (e.kept ≡ d.kept)
  -- its blocks are to be freed but for those that are kept; its block of the table changes alone, and it does
  pub among : IsTrue tells → OnOk result (SetsNode s.books.geom number (alone (is_kept d.kept) (places_in s d number)) d e)
  pub changes : IsTrue tells → OnOk result (ChangesSome e)
  -- a read of the disk failed, or it is out of memory; blocks are only read
  pub refused : IfErr result LookRefused
  pub looks : LooksOnly tells (fails_reading result) s t

-- What `Draft::set_links` does: node `number` has so many links.
pub record SetsLinks {T : Type 0} (tells : Bool) (number links : ℕ) (result : Result T FileRefusal) (s t : State) (d e : DraftState) : Type 0 where
  -- no other node changed
  pub file : IsTrue tells → OnOk result ((x : FileNode) → files_in s d number ≡ Some x → IsWithFile (files_in s d) (files_in t e) number (Some (with_links x links)))
  -- it has the blocks that it had
  pub places : IsTrue tells → OnOk result (IsWithPlaces (places_in s d) (places_in t e) number (places_in s d number))
  -- the draft is one of the blocks as they are then, beside the same kept blocks
  pub draft : OnOk result (IsDraftOf tells t e)
  pub kept : OnOk result (e.kept ≡ d.kept)
  -- its block of the table changes alone, and it does
  pub among : IsTrue tells → OnOk result (SetsNode s.books.geom number [] d e)
  pub changes : IsTrue tells → OnOk result (ChangesSome e)
  -- a read of the disk failed, or it is out of memory; blocks are only read
  pub refused : IfErr result LookRefused
  pub looks : LooksOnly tells (fails_reading result) s t
