-- The steps of a write into an open node: the blocks, the gap, and the bytes.
use Rattle.std.proofs.Common.{◌≡◌, ℕ, ◌+◌, ◌-◌, ◌*◌, ◌/◌, ◌<◌, Bool, IsTrue, List, [], length, take, min, replicate, All, Option, None, Some, sym, ap, subst, ◌∙◌, arith, ⊎_elim}
use Rattle.std.specs.Prelude.{IfSome}
use Rattle.std.proofs.lemmas.Bool.{cases_lt}
use Rattle.std.proofs.lemmas.Option.{slice_get_within}
use Rattle.std.proofs.lemmas.List.{length-take-le}
use Rattle.base_types.specs.Seal.{Blocks}
use Rattle.base_types.specs.declared.words.Class.{Class}
use Rattle.layout_geometry.specs.Geometry.{Geometry}
use Rattle.layout_extent.specs.Renew.{makes_way}
use Rattle.engine_blocks.specs.Running.{has}
use Rattle.engine_blocks.specs.Puts.{IsData}
use Rattle.engine_blocks.specs.State.{Bookkeeping, reusable_blocks}
use Rattle.crash_stands.specs.Files.{joined}
use Rattle.fs_files.specs.declared.nodes.OpenNode.{OpenNode}
use Rattle.fs_files.specs.Bytes.{blocks_for, met, overwrite}
use Rattle.fs_files.specs.Content.{HasContent, WritesContent}
use Rattle.fs_files.specs.Drafts.{DraftState, drafted}
use Rattle.fs_files.specs.Growing.{edge_of, placed, taken_by, CopiesEdge, CopiesEdges, GrowsPlaces}
use Rattle.fs_files.specs.Nodes.{class_of}
use Rattle.fs_files.specs.Places.{has_place}
use Rattle.fs_files.specs.Shared.{is_kept}
use Rattle.fs_files.specs.Writing.{FillsBytes, FillsGap, HasRoom, WritesOpen, gap_end}
use Rattle.fs_files.proofs.bytes.Pieces.{writes_none}
use Rattle.fs_files.proofs.calling.Came.{news, none_placed}
use Rattle.fs_files.proofs.drafts.Lists.{each_of}
use Rattle.fs_files.proofs.frames.Places.{all_of}
use Rattle.fs_files.proofs.growing.Edges.{edge_is}
use Rattle.fs_files.proofs.growing.Renewed.{in_either, renewed_count}

-- the gap is content that was written, perhaps none
pub gap_writes : (tells : Bool) (m : Blocks) (off held : ℕ) (node : OpenNode) (d e : DraftState) → FillsGap tells m off held node d e → WritesContent (class_of node.kind) (met node.size (min off (1024 * held)) node.places) d e
gap_writes tells m off held node d e gap = ⊎_elim (λ past. gap.writes past)
    (λ within. subst (WritesContent (class_of node.kind) (met node.size (min off (1024 * held)) node.places) d) (sym (gap.none within)) (writes_none (class_of node.kind) (met node.size (min off (1024 * held)) node.places) d))
    (cases_lt node.size off)

-- the blocks that a node has for bytes `lo` to `hi`
pub record RoomIs (k : Bookkeeping) (lo hi : ℕ) (o p : OpenNode) (d : DraftState) : Type 0 where
  pub node : p ≡ record o { places = placed (is_kept d.kept) lo hi o.places (news k lo hi o d) }
  pub many : length (news k lo hi o d) ≡ taken_by (is_kept d.kept) lo hi o.places
  pub inside : All (IsData k.geom) (news k lo hi o d)

grown_is : (k : Bookkeeping) (lo hi : ℕ) (o p : OpenNode) (d e : DraftState) → GrowsPlaces lo hi k o p d e → RoomIs k lo hi o p d
grown_is k lo hi o p d e grows = record {
  node = grows.node;
  many = length-take-le (taken_by (is_kept d.kept) lo hi o.places) (reusable_blocks k) grows.enough;
  inside = λ i x low. let at = grows.takeable.each i x low in record { from = at.from; below = at.below };
}

same_is : (k : Bookkeeping) (lo hi : ℕ) (o : OpenNode) (d : DraftState) → taken_by (is_kept d.kept) lo hi o.places ≡ 0 → RoomIs k lo hi o o d
same_is k lo hi o d none = record {
  node = ap (λ xs. record o { places = xs }) (sym (none_placed (makes_way (lo / 1024) (blocks_for hi) (is_kept d.kept) o.places) 0 o.places)) ∙ ap (λ xs. record o { places = placed (is_kept d.kept) lo hi o.places xs }) empty;
  many = ap length (sym empty) ∙ sym none;
  inside = subst (All (IsData k.geom)) empty (λ i x low. absurd (omega (arith, low)));
}
  where
    empty : [] ≡ news k lo hi o d
    empty = ap (λ n. take n (reusable_blocks k)) (sym none)

pub room_is : (tells : Bool) (k : Bookkeeping) (m : Blocks) (lo hi : ℕ) (o p : OpenNode) (d e : DraftState) → HasRoom tells k m lo hi o p d e → RoomIs k lo hi o p d
room_is tells k m lo hi o p d e room = ⊎_elim (λ more. let gets = room.gets more in grown_is k lo hi o p d gets.grown gets.takes)
    (λ few. let none : taken_by (is_kept d.kept) lo hi o.places ≡ 0 = omega (arith, few) in subst (λ (x : OpenNode). RoomIs k lo hi o x d) (sym (room.same none).0) (same_is k lo hi o d none))
    (cases_lt 0 (taken_by (is_kept d.kept) lo hi o.places))

-- they are data blocks
is_data : (k : Bookkeeping) (lo hi : ℕ) (o p : OpenNode) (d : DraftState) → All (IsData k.geom) o.places → RoomIs k lo hi o p d → All (IsData k.geom) p.places
is_data k lo hi o p d inside is = all_of (IsData k.geom) p.places (λ b mine. ⊎_elim (λ old. each_of (IsData k.geom) o.places inside b old)
    (λ new. each_of (IsData k.geom) (news k lo hi o d) is.inside b new)
    (in_either (makes_way (lo / 1024) (blocks_for hi) (is_kept d.kept) o.places) 0 o.places (news k lo hi o d) b (sym (ap (λ (x : OpenNode). has x.places b) is.node) ∙ mine)))

pub room_data : (tells : Bool) (k : Bookkeeping) (m : Blocks) (lo hi : ℕ) (o p : OpenNode) (d e : DraftState) (g : Geometry) → k.geom ≡ g → All (IsData g) o.places → HasRoom tells k m lo hi o p d e → All (IsData k.geom) p.places
room_data tells k m lo hi o p d e g geom inside room = is_data k lo hi o p d (subst (λ (h : Geometry). All (IsData h) o.places) (sym geom) inside) (room_is tells k m lo hi o p d e room)

pub grown_data : (k : Bookkeeping) (lo hi : ℕ) (o p : OpenNode) (d e : DraftState) (g : Geometry) → k.geom ≡ g → All (IsData g) o.places → GrowsPlaces lo hi k o p d e → All (IsData k.geom) p.places
grown_data k lo hi o p d e g geom inside grows = is_data k lo hi o p d (subst (λ (h : Geometry). All (IsData h) o.places) (sym geom) inside) (grown_is k lo hi o p d e grows)

-- and so many
is_count : (k : Bookkeeping) (lo hi : ℕ) (o p : OpenNode) (d : DraftState) → RoomIs k lo hi o p d → length p.places ≡ length o.places + (blocks_for hi - length o.places)
is_count k lo hi o p d is = ap (λ (x : OpenNode). length x.places) is.node
    ∙ renewed_count (makes_way (lo / 1024) (blocks_for hi) (is_kept d.kept) o.places) 0 o.places (news k lo hi o d) (blocks_for hi - length o.places) is.many

pub room_count : (tells : Bool) (k : Bookkeeping) (m : Blocks) (lo hi : ℕ) (o p : OpenNode) (d e : DraftState) → HasRoom tells k m lo hi o p d e → length p.places ≡ length o.places + (blocks_for hi - length o.places)
room_count tells k m lo hi o p d e room = is_count k lo hi o p d (room_is tells k m lo hi o p d e room)

-- what is copied is a data block, and the place is one of the node's
pub edge_data : (kept : ℕ → Bool) (at : ℕ) (k : Bookkeeping) (lo hi : ℕ) (o p : OpenNode) (d e : DraftState) (g : Geometry) (x : Option ℕ) → k.geom ≡ g → All (IsData g) o.places → GrowsPlaces lo hi k o p d e → x ≡ edge_of kept at o.places
    → IfSome x (λ b. (at / 1024 < length p.places) × IsData k.geom b)
edge_data kept at k lo hi o p d e g None geom inside grows is = tt
edge_data kept at k lo hi o p d e g (Some b) geom inside grows is =
    let there = edge_is kept at o.places b (sym is) in
    let low : at / 1024 < length o.places = slice_get_within o.places (at / 1024) b there.0 in (
      omega (arith, low, is_count k lo hi o p d (grown_is k lo hi o p d e grows)),
      subst (λ (h : Geometry). IsData h b) (sym geom) (each_of (IsData g) o.places inside b (has_place o.places (at / 1024) b there.0)),
    )

-- The blocks of later states are those of the first, where they are known.

copied_map : (tells : Bool) (m n : Blocks) (class : Class) (c : ℕ) (from : Option ℕ) (d e : DraftState) → (IsTrue tells → n ≡ m) → CopiesEdge tells n class c from d e → CopiesEdge tells m class c from d e
copied_map tells m n class c None d e map copies = copies
copied_map tells m n class c (Some b) d e map copies = record {
  bytes = copies.bytes;
  puts = copies.puts;
  same = λ told. subst (λ (x : Blocks). length (drafted d x b) ≡ 1024 → copies.bytes ≡ drafted d x b) (map told) (copies.same told);
}

copies_map : (tells : Bool) (m n : Blocks) (lo hi : ℕ) (first last : Option ℕ) (node : OpenNode) (d e : DraftState) → (IsTrue tells → n ≡ m) → CopiesEdges tells n lo hi first last node d e → CopiesEdges tells m lo hi first last node d e
copies_map tells m n lo hi first last node d e map copies = record {
  copied = copies.copied;
  low = copied_map tells m n (class_of node.kind) _ first d copies.copied map copies.low;
  high = copied_map tells m n (class_of node.kind) _ last copies.copied e map copies.high;
}

-- the node got blocks
pub room_got : (tells : Bool) (k l : Bookkeeping) (m n : Blocks) (lo hi : ℕ) (o p : OpenNode) (d g e : DraftState) (first last : Option ℕ) → l ≡ k → (IsTrue tells → n ≡ m) → 0 < taken_by (is_kept d.kept) lo hi o.places → d.taken ≡ []
    → first ≡ edge_of (is_kept d.kept) lo o.places → last ≡ edge_of (is_kept d.kept) hi o.places → GrowsPlaces lo hi k o p d g → CopiesEdges tells n lo hi first last p g e → HasRoom tells l m lo hi o p d e
room_got tells k l m n lo hi o p d g e first last books map some none at_lo at_hi grows copies = subst (λ (b : Bookkeeping). HasRoom tells b m lo hi o p d e) (sym books) (record {
  same = λ zero. absurd (omega (arith, zero, some));
  gets = λ more. record {
    grown = g;
    first = none;
    takes = grows;
    copies = subst (λ x. CopiesEdges tells m lo hi x (edge_of (is_kept d.kept) hi o.places) p g e) at_lo (subst (λ x. CopiesEdges tells m lo hi first x p g e) at_hi (copies_map tells m n lo hi first last p g e map copies));
  };
})

fills_map : (tells : Bool) (m n : Blocks) (off held : ℕ) (ys : List ℕ) (node : OpenNode) (d f : DraftState) → (IsTrue tells → n ≡ m) → FillsBytes tells n off held ys node d f → FillsBytes tells m off held ys node d f
fills_map tells m n off held ys node d f map fills = record {
  filled = fills.filled;
  gap = record {
    none = fills.gap.none;
    writes = fills.gap.writes;
    content = λ told. subst (λ (x : Blocks). HasContent x d node.places → HasContent x fills.filled node.places) (map told) (fills.gap.content told);
    bytes = λ told. subst (λ (x : Blocks). HasContent x d node.places → node.size < gap_end node off → joined (drafted fills.filled x) node.places ≡ overwrite node.size (replicate (min (gap_end node off) (1024 * held) - node.size) 0) (joined (drafted d x) node.places)) (map told) (fills.gap.bytes told);
  };
  writes = fills.writes;
  some = fills.some;
  content = λ told. subst (λ (x : Blocks). HasContent x fills.filled node.places → HasContent x f node.places) (map told) (fills.content told);
  bytes = λ told. subst (λ (x : Blocks). HasContent x fills.filled node.places → joined (drafted f x) node.places ≡ overwrite off ys (joined (drafted fills.filled x) node.places)) (map told) (fills.bytes told);
}

-- all steps
pub wrote : (tells : Bool) (k l : Bookkeeping) (m n : Blocks) (off held : ℕ) (ys : List ℕ) (o p : OpenNode) (d g f : DraftState) → l ≡ k → (IsTrue tells → n ≡ m) → held ≡ length o.places
    → HasRoom tells k m (min off o.size) (off + length ys) o p d g → FillsBytes tells n off held ys p g f → WritesOpen tells l m off ys o p d f
wrote tells k l m n off held ys o p d g f books map is room fills = record {
  grown = g;
  room = subst (λ (b : Bookkeeping). HasRoom tells b m (min off o.size) (off + length ys) o p d g) (sym books) room;
  fills = subst (λ h. FillsBytes tells m off h ys p g f) is (fills_map tells m n off held ys p g f map fills);
}
