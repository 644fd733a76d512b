-- How many blocks are free after a bit was written, and which of them were found so far.
use Rattle.std.proofs.Common.{◌≡◌, ℕ, ◌+◌, ◌<◌, ◌≤◌, ◌==◌, Bool, true, false, not, List, [], ◌∷◌, ◌++◌, length, take, drop, slice_set, min, refl, sym, ap, ap₂, ◌∙◌, arith, take_all, append-nil}
use Rattle.std.proofs.lemmas.Bool.{cond-true, cond-false, eq-eqb, ne_eqb, not_from_true, not_from_false}
use Rattle.std.proofs.Math.Seq.{take-append_seam}
use Rattle.std.proofs.lemmas.List.{length-set, length-append, length-take-le, take_more_set, drop-set-lt, drop-drop}
use Rattle.base_types.specs.Seal.{Blocks}
use Rattle.layout_geometry.specs.Geometry.{Geometry, data_start}
use Rattle.layout_bitmap.specs.Bits.{bit_in, IsFree, BitBecomes, free_blocks}
use Rattle.layout_bitmap.proofs.Frees.{kept, kept_joined, kept_next, none_kept, one_more}

pub one_less : (g : Geometry) (old new : Blocks) (b : ℕ) → IsFree g old b → BitBecomes old new b true → length (free_blocks g new) + 1 ≡ length (free_blocks g old)
one_less g old new b free becomes =
    one_more (λ k. not (bit_in old k)) (λ k. not (bit_in new k)) (data_start g) b g.n free.from free.below (not_from_false _ free.clear)
    (not_from_true _ (becomes b ∙ cond-true (b == b) true (bit_in old b) (eq-eqb b b refl)))
    (λ k apart. ap not (becomes k ∙ cond-false (k == b) true (bit_in old k) (ne_eqb k b apart)))

pub one_again : (g : Geometry) (old new : Blocks) (b : ℕ) → bit_in old b ≡ true → IsFree g new b → BitBecomes old new b false → length (free_blocks g new) ≡ length (free_blocks g old) + 1
one_again g old new b was free becomes =
    sym (one_more (λ k. not (bit_in new k)) (λ k. not (bit_in old k)) (data_start g) b g.n free.from free.below (not_from_false _ free.clear)
    (not_from_true _ was)
    (λ k apart. ap not (sym (becomes k ∙ cond-false (k == b) false (bit_in old k) (ne_eqb k b apart)))))

-- the test of a free block
abbrev is_clear : Blocks → ℕ → Bool
is_clear m b = not (bit_in m b)

-- the free blocks before a place are in the front of a list, and its rest is as it was
pub record AreFound (g : Geometry) (m : Blocks) (old new : List ℕ) (count from : ℕ) : Type 0 where
  pub low : data_start g ≤ from
  pub high : from ≤ g.n
  pub room : count ≤ length new
  pub size : length new ≡ length old
  pub front : take count new ≡ kept (is_clear m) (data_start g) from
  pub rest : drop count new ≡ drop count old

-- one more free block was found, and those between it and the last are none
pub found_more : (g : Geometry) (m : Blocks) (old new : List ℕ) (count from b : ℕ) → AreFound g m old new count from → count < length new → from ≤ b → b < g.n
    → ((k : ℕ) → from ≤ k → k < b → bit_in m k ≡ true) → bit_in m b ≡ false → AreFound g m old (slice_set new count b) (count + 1) (b + 1)
found_more g m old new count from b h room low high before clear = record {
  low = omega (arith, h.low, low);
  high = omega (arith, high);
  room = omega (arith, room, length-set new count b);
  size = length-set new count b ∙ h.size;
  front = take_more_set new count b room ∙ ap (λ front. front ++ b ∷ []) h.front ∙ sym (kept_next (is_clear m) (data_start g) from b h.low low (λ k l u. not_from_true _ (before k l u)) (not_from_false _ clear));
  rest = drop-set-lt (count + 1) new count b (omega arith) ∙ sym (drop-drop 1 count new) ∙ ap (drop 1) h.rest ∙ drop-drop 1 count old;
}

-- what was found in the end: the first free blocks, as many as there are and have room
pub record AreLowest (g : Geometry) (m : Blocks) (old new : List ℕ) (count : ℕ) : Type 0 where
  pub count_is : count ≡ min (length old) (length (free_blocks g m))
  pub front_is : take count new ≡ take (length old) (free_blocks g m)

-- no room is left
pub found_full : (g : Geometry) (m : Blocks) (old new : List ℕ) (count from : ℕ) → AreFound g m old new count from → length new ≤ count → AreLowest g m old new count
found_full g m old new count from h full = record {
  count_is = omega (arith, h.size, full, h.room, ap length free, length-append (take count new) (kept (is_clear m) from g.n), taken);
  front_is = sym (ap₂ take {x = length old} {y = length (take count new)} (omega (arith, h.size, full, h.room, taken)) free ∙ take-append_seam (take count new) (kept (is_clear m) from g.n));
}
  where
    taken : length (take count new) ≡ count
    taken = length-take-le count new h.room

    free : free_blocks g m ≡ take count new ++ kept (is_clear m) from g.n
    free = kept_joined (is_clear m) (data_start g) from g.n h.low h.high ∙ ap (λ front. front ++ kept (is_clear m) from g.n) (sym h.front)

-- no free block is left
pub found_last : (g : Geometry) (m : Blocks) (old new : List ℕ) (count from : ℕ) → AreFound g m old new count from → ((k : ℕ) → from ≤ k → k < g.n → bit_in m k ≡ true) → AreLowest g m old new count
found_last g m old new count from h set = record {
  count_is = omega (arith, h.size, h.room, ap length free, taken);
  front_is = sym free ∙ sym (take_all (length old) (free_blocks g m) (omega (arith, h.size, h.room, ap length free, taken)));
}
  where
    taken : length (take count new) ≡ count
    taken = length-take-le count new h.room

    free : free_blocks g m ≡ take count new
    free =
        kept_joined (is_clear m) (data_start g) from g.n h.low h.high
        ∙ ap₂ ◌++◌ (sym h.front) (none_kept (is_clear m) from g.n (λ k l u. not_from_true _ (set k l u))) ∙ append-nil (take count new)
