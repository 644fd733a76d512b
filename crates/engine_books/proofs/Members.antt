-- Members of lists that are joined or filtered, and bits that no data block has.
use Rattle.std.proofs.Common.{◌≡◌, ℕ, ◌*◌, ◌==◌, nat_lt, nat_le, true, false, not, ◌||◌, ◌&&◌, List, ◌++◌, ap, ap₂, ◌∙◌, arith, inl, inr}
use Rattle.std.proofs.lemmas.Bool.{cases_lt, le-ltb, lt-leb, or_left, or_right}
use Rattle.std.proofs.lemmas.List.Folds.{list_any-append}
use Rattle.base_types.specs.Seal.{Blocks}
use Rattle.layout_geometry.specs.Geometry.{Geometry, LiesIn, bitmap_blocks, data_start}
use Rattle.layout_geometry.specs.Geometry.Area.{Data}
use Rattle.layout_bitmap.specs.Bits.{bit_in, is_bad_bit}
use Rattle.engine_reuse.specs.Numbers.{is_among}

pub among_first : (b : ℕ) (xs ys : List ℕ) → is_among b xs ≡ true → is_among b (xs ++ ys) ≡ true
among_first b xs ys is = list_any-append (λ x. x == b) xs ys ∙ or_left (is_among b xs) (is_among b ys) is

pub among_last : (b : ℕ) (xs ys : List ℕ) → is_among b ys ≡ true → is_among b (xs ++ ys) ≡ true
among_last b xs ys is = list_any-append (λ x. x == b) xs ys ∙ or_right (is_among b xs) (is_among b ys) is

-- where no other bit changed than those of data blocks, the others are still good
pub still_good : (g : Geometry) (old new : Blocks) → ((b : ℕ) → (LiesIn g Data b → ⊥) → bit_in new b ≡ bit_in old b) → ((b : ℕ) → is_bad_bit g old b ≡ false) → (b : ℕ) → is_bad_bit g new b ≡ false
still_good g old new same good b = elim (cases_lt b (data_start g)) [
  | inl early ↦ outside (λ l. omega (arith, early, l.from))
  | inr from ↦ elim (cases_lt b g.n) [
    | inl below ↦ ap₂ (λ x y. (x && not (bit_in new b)) || (y && (nat_lt b (8192 * bitmap_blocks g) && bit_in new b))) (le-ltb b (data_start g) from) (lt-leb g.n b below)
    | inr past ↦ outside (λ l. omega (arith, past, l.below))
  ]
]
  where
    outside : (LiesIn g Data b → ⊥) → is_bad_bit g new b ≡ false
    outside out = ap (λ x. (nat_lt b (data_start g) && not x) || (nat_le g.n b && (nat_lt b (8192 * bitmap_blocks g) && x))) (same b out) ∙ good b
