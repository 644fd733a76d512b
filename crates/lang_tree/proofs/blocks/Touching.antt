-- How many blocks of a file touch a range of bytes, by two divisions.
use Rattle.std.proofs.Common.{◌≡◌, ◌⊎◌, ℕ, suc, zero, ◌+◌, ◌-◌, ◌/◌, ◌<◌, ◌≤◌, min, max, Bool, true, false, cond, List, ◌∷◌, length, arith}
use Rattle.std.proofs.lemmas.Bool.{and_parts, ltb-true, ltb-false, and_cases}
use Rattle.std.specs.List.{filter, range_with_len}
use Rattle.lang_tree.specs.Figures.{touches, blocks_for, blocks_met}

-- one element more is kept or not
kept : (b : Bool) (a : ℕ) (xs : List ℕ) (m : ℕ) → (b ≡ true → length xs + 1 ≡ m) → (b ≡ false → length xs ≡ m) → length (cond b (a ∷ xs) xs) ≡ m
kept b a xs m h1 h2 = grind arith

-- a block that touches the bytes lies from the first block of theirs on, and begins before their end
touched : (lo hi i : ℕ) → touches lo hi i ≡ true → (lo / 1024 ≤ i) × (i < (hi + 1023) / 1024)
touched lo hi i h = grind (arith, and_parts, ltb-true)

-- any other block lies before that one, or begins at their end or behind it
untouched : (lo hi i : ℕ) → touches lo hi i ≡ false → (i < lo / 1024) ⊎ ((hi + 1023) / 1024 ≤ i)
untouched lo hi i h = grind (arith, and_cases, ltb-false)

met_from : (lo hi a n : ℕ) → length (filter (touches lo hi) (range_with_len a n)) ≡ min (a + n) ((hi + 1023) / 1024) - max a (lo / 1024)
met_from lo hi a zero = omega arith
met_from lo hi a (suc n) = grind (arith, met_from lo hi (a + 1) n, kept, touched, untouched)

-- the blocks that begin before `hi`, without those that end at `lo` or before
pub met_by_division : (size lo hi : ℕ) → min (blocks_for size) (blocks_for hi) - lo / 1024 ≡ blocks_met size lo hi
met_by_division size lo hi = let all = met_from lo hi 0 (blocks_for size) in omega arith
