-- A slot written behind the last one of a directory: its inode, and which blocks change.
use Rattle.std.proofs.Common.{◌≡◌, ℕ, ◌+◌, ◌-◌, ◌/◌, ◌^◌, ◌<◌, ◌≤◌, ◌==◌, nat_le, max, min, Bool, true, false, not, ◌&&◌, if◌then◌else◌, List, [], ◌∷◌, ◌++◌, length, take, drop, Some, Result, Ok, Err, refl, subst, ap, ap₂, ◌∙◌, arith, ⊎_elim}
use Rattle.std.specs.Prelude.{OnOk}
use Rattle.std.proofs.lemmas.Bool.{cases_eq}
use Rattle.std.proofs.Math.Seq.{drop-append_seam}
use Rattle.std.proofs.lemmas.List.{length-append, length-take, length-drop}
use Rattle.std.proofs.lemmas.List.Filters.{length-filter_both}
use Rattle.base_types.specs.declared.layout.Layout.{Layout}
use Rattle.base_types.specs.Layouts.{most_runs, slot_size, slot_block, slot_place, slots_before, directory_blocks, directory_bytes}
use Rattle.base_types.specs.LayoutLaws.{directory_before, directory_blocks_rise, directory_ends, directory_grows, directory_needs, full_directory, slot_from, slot_place_is, slot_size_is, slot_within}
use Rattle.layout_extent.specs.Runs.{stretches}
use Rattle.layout_bytes.specs.declared.node.NodeKind.TheVariants.{Dir}
use Rattle.layout_bytes.specs.declared.slot.Slot.{Slot}
use Rattle.layout_bytes.specs.Slot.{slot_spelling}
use Rattle.layout_directory.specs.Slots.{IsLawful}
use Rattle.layout_geometry.specs.Geometry.{Geometry}
use Rattle.lang_tree.specs.Step.{written}
use Rattle.lang_tree.specs.Figures as figures
use Rattle.crash_stands.specs.Files.{FileNode, Files}
use Rattle.crash_stands.specs.Inodes.{ADir, inode_of}
use Rattle.engine_blocks.specs.State.{Bookkeeping, reusable_blocks}
use Rattle.fs_files.specs.declared.refusal.FileRefusal.{FileRefusal}
use Rattle.fs_files.specs.declared.refusal.FileRefusal.TheVariants as refusal
use Rattle.fs_files.specs.Bytes.{blocks_for, met, overwritten}
use Rattle.fs_files.specs.Calls.{is_dir, IsUsed, IsWithFile, IsWithPlaces, with_bytes, ChangesAmong, Grows, written_blocks, GrowthRefused}
use Rattle.fs_files.specs.Drafts.{DraftState}
use Rattle.fs_files.specs.Growing.{alone, placed, places_after, taken_by}
use Rattle.fs_files.specs.Contents.{whole_slots}
use Rattle.fs_files.specs.Nodes.{node_block, AreWholeSlots}
use Rattle.fs_files.specs.Shared.{is_kept}
use Rattle.fs_dirs.specs.Changing.{Alters, IsWithSlots}
use Rattle.fs_dirs.proofs.writing.Nodes.{DirNode, sets_file, bytes_over}

-- whole slots, and one more
pub still_whole : (l : Layout) (size count off more : ℕ) → size ≡ directory_bytes l count → off ≡ slot_place l count → more ≡ slot_size l → AreWholeSlots l (max size (off + more))
still_whole l size count off more whole at one =
    subst (λ n. AreWholeSlots l n) {x = directory_bytes l (count + 1)} {y = max size (off + more)} (omega (arith, whole, at, one, directory_ends l count, directory_before l count)) (whole_slots l (count + 1))

-- a directory that fits a disk has room there for one slot more
has_room : (l : Layout) (size count : ℕ) → size ≡ directory_bytes l count → size + 1024 ≤ 2 ^ 30 → slot_place l count + slot_size l ≤ 2 ^ 30
has_room l size count is fits = omega (
  arith,
  is,
  fits,
  slot_place_is l count,
  slot_within l count,
  directory_needs l count,
  full_directory l (slot_block l count),
  directory_blocks_rise l (slots_before l (slot_block l count)) count (slot_from l count),
)

-- so its place is told
pub place_behind : (k l : Layout) (count n size offset : ℕ) → k ≡ l → count ≡ n → size ≡ directory_bytes l n → size + 1024 ≤ 2 ^ 30 → (slot_place k count + slot_size k ≤ 2 ^ 30 → offset ≡ slot_place k count) → offset ≡ slot_place l n
place_behind k l count n size offset same many is fits told =
    let at : slot_place k count ≡ slot_place l n = ap₂ slot_place same many in
    told (omega (arith, has_room l size n is fits, at, ap slot_size same)) ∙ at

-- its slots after the write
pub sets_behind : (l : Layout) (old new : Files) (k count offset : ℕ) (text : List ℕ) (slots : List Slot) (s : Slot) (r : DirNode l (old k) slots) → count ≡ length slots → offset ≡ slot_place l count → 0 < length text → text ≡ slot_spelling l s → IsLawful l s
    → ((file : FileNode) (slots : List Slot) (s : Slot) → inode_of l file ≡ Some (ADir slots) → AreWholeSlots l (length file.bytes) → IsLawful l s
    → inode_of l (with_bytes file (written (slot_place l (length slots)) (slot_spelling l s) file.bytes)) ≡ Some (ADir (slots ++ s ∷ [])))
    → ((x : FileNode) → old k ≡ Some x → IsWithFile old new k (Some (with_bytes x (overwritten offset text x.bytes)))) → IsWithSlots l old new k (slots ++ s ∷ [])
sets_behind l old new k count offset text slots s r many at some same lawful behind write =
    sets_file l old new k (with_bytes r.file (overwritten offset text r.file.bytes)) (slots ++ s ∷ []) (write r.file r.is)
    (ap (λ b. inode_of l (with_bytes r.file b)) (bytes_over offset (slot_place l (length slots)) text (slot_spelling l s) r.file.bytes (at ∙ ap (slot_place l) many) same some) ∙ behind r.file slots s r.reads r.whole lawful)

-- nodes in use stay so where one became another
pub still_used : (old new : Files) (k : ℕ) (x : FileNode) → IsWithFile old new k (Some x) → (l : ℕ) → IsUsed old l → IsUsed new l
still_used old new k x set l used = ⊎_elim (λ e. (x, ap new e ∙ set.own))
    (λ n. (used.0, set.others l n ∙ used.1))
    (cases_eq l k)

-- one number or none
one_at_most : (b : Bool) (n : ℕ) → length (if b then [] else n ∷ []) ≤ 1
one_at_most true n = omega arith
one_at_most false n = omega arith

-- how many blocks a slot more changes, and how many it takes
few_blocks : (l : Layout) (off n hi : ℕ) → off ≡ slot_place l n → hi ≡ slot_place l n + slot_size l → (min (blocks_for hi) (directory_blocks l n) - off / 1024) + figures.growth l n ≤ 1
few_blocks l off n hi e f =
    omega (arith, e, f, slot_place_is l n, slot_within l n, slot_size_is l, directory_ends l n, directory_needs l (n + 1), directory_grows l n, directory_blocks_rise l n (n + 1) (omega arith))

-- A directory's blocks with those that it takes for one slot more, where none of them is kept: it takes what it has too few, and they come behind its own.
pub record GrowsBehind (l : Layout) (kept : ℕ → Bool) (lo hi : ℕ) (places : List ℕ) (n : ℕ) : Type 0 where
  pub takes : taken_by kept lo hi places ≡ figures.growth l n
  pub behind : (more : List ℕ) → placed kept lo hi places more ≡ places ++ more
  pub size : hi ≡ slot_place l n + slot_size l

-- a directory grows as its slots do
pub grows_behind : (l : Layout) (kept : ℕ → Bool) (lo size n off text : ℕ) (places : List ℕ) → taken_by kept lo (off + text) places ≡ blocks_for (off + text) - length places → ((more : List ℕ) → placed kept lo (off + text) places more ≡ places ++ more)
    → length places ≡ blocks_for size → size ≡ directory_bytes l n → off ≡ slot_place l n → text ≡ slot_size l → GrowsBehind l kept lo (off + text) places n
grows_behind l kept lo size n off text places takes behind own e at one = record {
  takes = omega (arith, takes, own, e, at, one, directory_needs l n, directory_needs l (n + 1), directory_ends l n);
  behind = behind;
  size = omega (arith, at, one);
}

-- the blocks that it has then
places_behind : (l : Layout) (kept : ℕ → Bool) (lo hi n : ℕ) (places spare : List ℕ) → GrowsBehind l kept lo hi places n → places_after kept lo hi places spare ≡ places ++ take (figures.growth l n) spare
places_behind l kept lo hi n places spare h = h.behind (take (taken_by kept lo hi places) spare) ∙ ap (λ i. places ++ take i spare) h.takes

-- there were blocks enough
pub room_behind : (l : Layout) (k : Bookkeeping) (n : ℕ) (x : FileNode) (lo hi : ℕ) (places new_places : List ℕ) (d e : DraftState) → Grows k x places new_places lo hi d e → GrowsBehind l (is_kept d.kept) lo hi places n
    → figures.growth l n ≤ length (reusable_blocks k)
room_behind l k n x lo hi places new_places d e grows h = omega (arith, grows.enough, h.takes)

-- its blocks and those that come behind them lie in few runs
pub runs_behind : (l : Layout) (k : Bookkeeping) (n : ℕ) (x : FileNode) (lo hi : ℕ) (places new_places : List ℕ) (d e : DraftState) → Grows k x places new_places lo hi d e → GrowsBehind l (is_kept d.kept) lo hi places n
    → stretches (places ++ take (figures.growth l n) (reusable_blocks k)) ≤ most_runs k.geom.layout
runs_behind l k n x lo hi places new_places d e grows h = subst (λ ps. stretches ps ≤ most_runs k.geom.layout) (grows.placed ∙ places_behind l (is_kept d.kept) lo hi n places (reusable_blocks k) h) grows.runs

-- not more of a list pass than it has
alone_few : (kept : ℕ → Bool) (bs : List ℕ) → length (alone kept bs) ≤ length bs
alone_few kept bs = omega (arith, length-filter_both (λ b. not (kept b)) (λ b. not (not (kept b))) (λ b. refl) bs)

-- What a write behind the last slot alters. `off` is where it begins, `hi` where it ends, and `lo` where the blocks are met that it needs.
module _ (l : Layout) (k : Bookkeeping) (g : Geometry) (dir lo off hi n : ℕ) (x : FileNode) (places new_places : List ℕ) (d e : DraftState) (grows : Grows k x places new_places lo hi d e) (h : GrowsBehind l (is_kept d.kept) lo hi places n) (dir_kind : x.kind ≡ Dir)
    (low : off ≡ slot_place l n) (lo_is : lo ≡ min off (length x.bytes)) (own : length places ≡ directory_blocks l n) (among : ChangesAmong (written_blocks g (is_kept d.kept) dir x places (drop (length places) new_places) off hi) d e) where
  abbrev more : List ℕ
  more = drop (length places) new_places

  more_is : more ≡ take (figures.growth l n) (reusable_blocks k)
  more_is =
      ap (drop (length places)) (grows.placed ∙ places_behind l (is_kept d.kept) lo hi n places (reusable_blocks k) h)
      ∙ drop-append_seam places (take (figures.growth l n) (reusable_blocks k))

  more_few : length more ≤ figures.growth l n
  more_few = omega (arith, ap length more_is, length-take (figures.growth l n) (reusable_blocks k))

  abbrev touched : List ℕ
  touched = met off hi places

  touched_few : length touched ≡ min (blocks_for hi) (directory_blocks l n) - off / 1024
  touched_few = length-drop (off / 1024) (take (blocks_for hi) places) ∙ ap (λ i. i - off / 1024) {x = length (take (blocks_for hi) places)} {y = min (blocks_for hi) (directory_blocks l n)} (length-take (blocks_for hi) places ∙ ap (min (blocks_for hi)) own)

  abbrev own_part : List ℕ
  own_part = if is_dir x.kind then more else []

  abbrev node_part : List ℕ
  node_part = if nat_le hi (length x.bytes) && (taken_by (is_kept d.kept) (min off (length x.bytes)) hi places == 0) then [] else node_block g dir ∷ []

  few : length (alone (is_kept d.kept) touched ++ (own_part ++ node_part)) ≤ 2
  few = omega (
    arith,
    length-append (alone (is_kept d.kept) touched) (own_part ++ node_part),
    length-append own_part node_part,
    alone_few (is_kept d.kept) touched,
    touched_few,
    more_few,
    few_blocks l off n hi low h.size,
    ap (λ q. length (if is_dir q then more else [])) dir_kind,
    one_at_most (nat_le hi (length x.bytes) && (taken_by (is_kept d.kept) (min off (length x.bytes)) hi places == 0)) (node_block g dir),
  )

  pub alters_behind : Alters 2 (take (figures.growth l n) (reusable_blocks k)) 0 d e
  alters_behind = record {
    among = (alone (is_kept d.kept) touched ++ (own_part ++ node_part), few, subst (λ t. ChangesAmong (alone (is_kept d.kept) (met (if t then off else min off (length x.bytes)) hi places) ++ (own_part ++ node_part)) d e) (ap is_dir dir_kind) among);
    some = grows.changes;
    taken = grows.taken ∙ ap (λ i. d.taken ++ take i (reusable_blocks k)) h.takes;
    freed = omega (arith, ap length grows.freed);
    fresh = omega (arith, grows.fresh, ap (λ q. if is_dir q then 0 else taken_by (is_kept d.kept) lo hi places) dir_kind);
  }

-- its places
pub placed_behind : (l : Layout) (old new : ℕ → List ℕ) (k : ℕ) (kept : ℕ → Bool) (lo hi n : ℕ) (spare : List ℕ) → GrowsBehind l kept lo hi (old k) n → IsWithPlaces old new k (places_after kept lo hi (old k) spare)
    → IsWithPlaces old new k (old k ++ take (figures.growth l n) spare)
placed_behind l old new k kept lo hi n spare h w = record { own = w.own ∙ places_behind l kept lo hi n (old k) spare h; others = w.others }

-- why it was refused
pub refused_behind : (n m : ℕ) (f h : List ℕ → List ℕ) (old new : Bookkeeping) (why : FileRefusal) → n ≡ m → ((more : List ℕ) → f more ≡ h more) → GrowthRefused n f old new why → GrowthRefused m h old new why
refused_behind n m f h old new (refusal.Short need reusable) count same r = (r.0 ∙ count, r.1, omega (arith, r.2, count), r.3)
refused_behind n m f h old new (refusal.Scattered runs) count same r = (r.0 ∙ ap stretches (same (take n (reusable_blocks new)) ∙ ap (λ i. h (take i (reusable_blocks new))) count), r.1, omega (arith, r.2, count))
refused_behind n m f h old new refusal.DiskFault count same r = omega (arith, r, count)
refused_behind n m f h old new refusal.ReadFault count same r = r
refused_behind n m f h old new refusal.NoMemory count same r = r

-- What an answer or a refusal says, another way.

pub ok_both : {T E P Q R : Type 0} (r : Result T E) → (P → Q → R) → OnOk r P → OnOk r Q → OnOk r R
ok_both (Ok x) to h i = to h i
ok_both (Err w) to h i = h
