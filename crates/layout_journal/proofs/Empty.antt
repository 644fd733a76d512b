-- The formatted disk has one header and no record, so it holds what rests on it.
use Rattle.std.proofs.Common.{◌≡◌, ℕ, ◌≤◌, ◌<◌, ◌==◌, true, false, ◌&&◌, nat_le, nat_lt, List, [], take, replicate, slice_index, refl, sym, ◌∙◌, ap, arith}
use Rattle.std.proofs.lemmas.Bool.{ne_eqb, lt-leb, cond-false}
use Rattle.std.proofs.lemmas.Nat.{mod_below}
use Rattle.layout_geometry.specs.Geometry.{Geometry, geometry_fits, bitmap_start, table_start, ring_block}
use Rattle.layout_journal.specs.Layout.{header_of, commit_of}
use Rattle.layout_journal.specs.Spelling.{IsHeader, fits_in}
use Rattle.layout_journal.specs.Run.{Newest, Record, IsRun, CanFollow, live_part, HeldIs}
use Rattle.layout_journal.specs.Formatted.{empty_header, formatted}
use Rattle.layout_journal.proofs.Tags.{header_begins, commit_tag}
use Rattle.layout_journal.proofs.Spelled.{header_reads}
use Rattle.layout_journal.proofs.Geometries.{sizes, ring_behind_slots}

-- a tag is no zeros: its first byte isn't one
zeros_no_tag : (tag : List ℕ) → take 8 (replicate 1024 0) ≡ tag → slice_index tag 0 ≡ 0
zeros_no_tag tag e = ap (λ (l : List ℕ). slice_index l 0) (sym e)

-- the byte of `O` isn't zero
letter_o : ◌≡◌ {A = ℕ} 79 0 → ⊥
letter_o e = omega arith

-- behind the first header and before the bitmap the formatted disk has zeros
zeros_stand : (g : Geometry) (b : ℕ) → 0 < b → b < bitmap_start g → formatted g b ≡ replicate 1024 0
zeros_stand g b some low =
    cond-false (b == 0) _ _ (ne_eqb b 0 (λ e. omega arith))
    ∙ cond-false (nat_le (bitmap_start g) b && nat_lt b (table_start g)) _ _ (ap (λ t. t && nat_lt b (table_start g)) (not_from (bitmap_start g) b low))
    ∙ cond-false (b == table_start g) _ _ (ne_eqb b (table_start g) (λ e. omega arith))
  where
    not_from : (a b : ℕ) → b < a → nat_le a b ≡ false
    not_from a b low = lt-leb a b low

-- a small number fits in eight bytes
small8 : (v : ℕ) → v ≤ 1 → fits_in 8 v
small8 v low = omega arith

-- the header of a formatted disk can be written
empty_is : (g : Geometry) → geometry_fits g ≡ true → 0 < g.j → IsHeader (empty_header g 1 1)
empty_is g fits ring = record {
  epoch = small8 1 (omega arith);
  turn = small8 1 (omega arith);
  first = small8 1 (omega arith);
  sure = small8 0 (omega arith);
  epoch_from = omega arith;
  turn_from = omega arith;
  start_from = omega arith;
  start_upto = omega arith;
  at = ring;
  geom = fits;
}

-- it is the newest one, since slot 1 has zeros
first_newest : (g : Geometry) → geometry_fits g ≡ true → 0 < g.j → Newest g.n (formatted g) 0 (empty_header g 1 1)
first_newest g fits ring = record {
  is_slot = omega arith;
  stands = header_reads (empty_header g 1 1) (empty_is g fits ring);
  other = λ k is. absurd (letter_o (zeros_no_tag _ (header_begins g.n _ k (sym (ap (header_of g.n) (zeros_stand g 1 (omega arith) (omega arith))) ∙ is))));
}

-- no record begins in the ring, which has zeros
none_follows : (g : Geometry) → 0 < g.j → (r : Record) → CanFollow (formatted g) (empty_header g 1 1) [] r → ⊥
none_follows g ring r f =
    letter_o (zeros_no_tag _ (commit_tag g _ _ (sym (ap (commit_of g) (zeros_stand g (ring_block g r.place) (omega (arith, ring_behind_slots g r.place)) (omega (arith, mod_below r.place g.j ring)))) ∙ f.whole.commit)))

-- so its run is empty
empty_run : (g : Geometry) → 0 < g.j → IsRun (formatted g) (empty_header g 1 1) []
empty_run g ring = record { consecutive = tt; whole = tt; let_in = tt; within = omega arith; longest = none_follows g ring }

-- and it holds its own live part
pub formatted_holds_itself : (g : Geometry) → geometry_fits g ≡ true → HeldIs g.n (formatted g) (live_part g (formatted g))
formatted_holds_itself g fits =
    let size = sizes g fits in
    let ring : 0 < g.j = omega (arith, size.ring_from) in
    record { slot = 0; header = empty_header g 1 1; run = []; newest = first_newest g fits ring; is_run = empty_run g ring; each = λ b. refl }
