-- The last slots of a directory cut off, and one slot taken out: its inode, and what is altered.
use Rattle.std.proofs.Common.{◌≡◌, ℕ, zero, suc, ◌+◌, ◌-◌, ◌/◌, ◌^◌, ◌<◌, ◌≤◌, IsTrue, Bool, true, false, not, ◌&&◌, if◌then◌else◌, List, [], ◌∷◌, ◌++◌, length, take, drop, set, slice_get, Option, Some, sym, subst, ap, ◌∙◌, arith, append-nil}
use Rattle.std.proofs.lemmas.List.{length-append, length-take, length-drop}
use Rattle.std.proofs.lemmas.Option.{get_or_from_slice_get}
use Rattle.base_types.specs.declared.layout.Layout.{Layout}
use Rattle.base_types.specs.Layouts.{directory_blocks, directory_bytes, slot_place, slot_size, slots_held}
use Rattle.base_types.specs.LayoutLaws.{directory_count, directory_ends, directory_needs, directory_rises, first_slot, no_directory}
use Rattle.layout_geometry.specs.Geometry.{Geometry}
use Rattle.layout_bytes.specs.declared.slot.Slot.{Slot}
use Rattle.layout_bytes.specs.Bytes.{are_zeros, has_zeros}
use Rattle.layout_bytes.specs.Slot.{slots_in}
use Rattle.layout_directory.specs.Directory.{without_at}
use Rattle.lang_tree.specs.Step.{resized}
use Rattle.crash_stands.specs.Files.{FileNode, Files}
use Rattle.crash_stands.specs.Inodes.{ADir, inode_of}
use Rattle.fs_files.specs.Bytes.{blocks_for}
use Rattle.fs_files.specs.Calls.{IsWithFile, IsWithPlaces, with_bytes, is_dir, Shrinks, ChangesAmong, cut_blocks}
use Rattle.fs_files.specs.Drafts.{DraftState}
use Rattle.fs_files.specs.Growing.{alone}
use Rattle.fs_files.specs.Contents.{whole_slots}
use Rattle.fs_files.specs.Nodes.{node_block, AreWholeSlots, MayEndAt, fills_blocks}
use Rattle.fs_files.specs.Shared.{is_kept}
use Rattle.fs_dirs.specs.Changing.{Alters, IsWithSlots}
use Rattle.fs_dirs.proofs.writing.Nodes.{DirNode, sets_file}

-- the bytes of fewer slots than a directory has are told
pub bytes_within : (k l : Layout) (count n size told : ℕ) → k ≡ l → count < n → size ≡ directory_bytes l n → size + 1024 ≤ 2 ^ 30 → (directory_bytes k count ≤ 2 ^ 30 → told ≡ directory_bytes k count) → told ≡ directory_bytes l count
bytes_within k l count n size told same low is fits by =
    let at : directory_bytes k count ≡ directory_bytes l count = ap (λ x. directory_bytes x count) same in
    by (omega (arith, directory_rises l count n (omega (arith, low)), is, fits, at)) ∙ at

-- no bytes lie between
nothing_between : (b : List ℕ) (at end : ℕ) → end ≤ at → has_zeros b at end ≡ true
nothing_between b at end low = ap (λ n. are_zeros (take n (drop at b))) {x = end - at} {y = 0} (omega (arith, low))

-- a directory may be cut where a slot ends
pub cut_at : (l : Layout) (bytes : List ℕ) (slots : List Slot) (count size : ℕ) → size ≡ directory_bytes l count → count ≤ length slots → slots_in l (length slots) bytes ≡ Some slots
    → ((l : Layout) (n : ℕ) (b : List ℕ) (slots : List Slot) (i : ℕ) → slots_in l n b ≡ Some slots → i < n → has_zeros b (slot_place l i + slot_size l) (slot_place l (i + 1)) ≡ true) → MayEndAt l bytes size
cut_at l bytes slots count size is few reads gaps = record {
  whole = subst (AreWholeSlots l) (sym is) (whole_slots l count);
  gap = subst (λ n. IsTrue (has_zeros bytes n (slot_place l (slots_held l n)))) (sym is) (subst (λ n. IsTrue (has_zeros bytes (directory_bytes l count) (slot_place l n))) (sym (directory_count l count)) (ends count few));
}
  where
    ends : (n : ℕ) → n ≤ length slots → IsTrue (has_zeros bytes (directory_bytes l n) (slot_place l n))
    ends zero low = nothing_between bytes (directory_bytes l 0) (slot_place l 0) (omega (arith, no_directory l, first_slot l))
    ends (suc n) low =
        subst (λ m. IsTrue (has_zeros bytes (directory_bytes l m) (slot_place l m))) {x = n + 1} {y = suc n} (omega arith)
        (subst (λ m. IsTrue (has_zeros bytes m (slot_place l (n + 1)))) (sym (directory_ends l n)) (gaps l (length slots) bytes slots n reads (omega (arith, low))))

-- its slots after a cut
pub sets_cut : (l : Layout) (old new : Files) (k count size : ℕ) (slots : List Slot) (r : DirNode l (old k) slots) → count < length slots → size ≡ directory_bytes l count
    → ((file : FileNode) (slots : List Slot) (n : ℕ) → inode_of l file ≡ Some (ADir slots) → AreWholeSlots l (length file.bytes) → n ≤ length slots
    → inode_of l (with_bytes file (resized (directory_bytes l n) file.bytes)) ≡ Some (ADir (take n slots)))
    → ((x : FileNode) → old k ≡ Some x → IsWithFile old new k (Some (with_bytes x (resized size x.bytes)))) → IsWithSlots l old new k (take count slots)
sets_cut l old new k count size slots r low at cut write =
    sets_file l old new k (with_bytes r.file (resized size r.file.bytes)) (take count slots) (write r.file r.is)
    (ap (λ n. inode_of l (with_bytes r.file (resized n r.file.bytes))) at ∙ cut r.file slots count r.reads r.whole (omega (arith, low)))

-- the last block that stays, and the node's
few_cut : (t : Bool) (size : ℕ) (places : List ℕ) (b : ℕ) → length ((if t then drop (size / 1024) (take (blocks_for size) places) else []) ++ b ∷ []) ≤ 2
few_cut true size places b = omega (
  arith,
  length-append (drop (size / 1024) (take (blocks_for size) places)) (b ∷ []),
  length-drop (size / 1024) (take (blocks_for size) places),
  length-take (blocks_for size) places,
)
few_cut false size places b = omega arith

-- what a cut alters
pub alters_cut : (g : Geometry) (dir count size : ℕ) (slots : List Slot) (o : Option FileNode) (r : DirNode g.layout o slots) (places new_places : List ℕ) (d e : DraftState) → size ≡ directory_bytes g.layout count → length places ≡ blocks_for (length r.file.bytes)
    → alone (is_kept d.kept) (drop (blocks_for size) places) ≡ drop (blocks_for size) places → Shrinks r.file places new_places size d e → ChangesAmong (cut_blocks g dir r.file places size) d e → Alters 2 [] (directory_blocks g.layout (length slots) - directory_blocks g.layout count) d e
alters_cut g dir count size slots o r places new_places d e at own all shrinks among = record {
  among = (cut_blocks g dir r.file places size, few_cut (is_dir r.file.kind && not (fills_blocks g.layout size)) size places (node_block g dir), among);
  some = shrinks.changes;
  taken = shrinks.taken ∙ sym (append-nil d.taken);
  freed = omega (arith, ap length (shrinks.freed ∙ ap (λ bs. d.freed ++ bs) all), length-append d.freed (drop (blocks_for size) places), length-drop (blocks_for size) places, own, r.long, at, directory_needs g.layout (length slots), directory_needs g.layout count);
  fresh = shrinks.fresh;
}

-- One slot taken out: the last one is written over it, and cut off.

-- it is gone then, and the last one in its place
pub out_is : (slots : List Slot) (place last : ℕ) (moved : Slot) → last ≡ length slots - 1 → slice_get slots last ≡ Some moved → take last (set slots place moved) ≡ without_at place slots
out_is slots place last moved at there =
    ap (λ n. take n (set slots place moved)) at
    ∙ ap (λ s. take (length slots - 1) (set slots place s)) (sym (get_or_from_slice_get slots (length slots - 1) moved (record { node = 0; name = [] }) (ap (slice_get slots) (sym at) ∙ there)))

-- slots set twice
pub slots_twice : (l : Layout) (f g h : Files) (k : ℕ) (xs ys : List Slot) → IsWithSlots l f g k xs → IsWithSlots l g h k ys → IsWithSlots l f h k ys
slots_twice l f g h k xs ys p q = record {
  inodes = record { here = q.inodes.here; others = λ n off. q.inodes.others n off ∙ p.inodes.others n off };
  others = λ n off. q.others n off ∙ p.others n off;
}

-- and its places, once they were as before, and then cut
pub places_twice : (f was g h : ℕ → List ℕ) (k n m : ℕ) → ((l : ℕ) → f l ≡ was l) → n ≡ m → IsWithPlaces f g k (f k) → IsWithPlaces g h k (take n (g k)) → IsWithPlaces was h k (take m (was k))
places_twice f was g h k n m same count p q = record { own = q.own ∙ (λ i. take (count i) ((p.own ∙ same k) i)); others = λ l off. q.others l off ∙ p.others l off ∙ same l }
