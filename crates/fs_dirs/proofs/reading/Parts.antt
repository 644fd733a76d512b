-- Parts of lists: what is at a place of a part, and bytes cut out of other ones.
use Rattle.std.proofs.Common.{◌≡◌, ℕ, zero, suc, ◌+◌, ◌-◌, ◌<◌, ◌≤◌, min, List, [], ◌∷◌, ◌++◌, length, take, drop, slice_get, Some, refl, sym, ap, ◌∙◌, arith}
use Rattle.std.proofs.lemmas.List.{length-take, length-drop, take-take, take-append-le, drop-append-le, drop-drop, drop-take, get_or-drop}
use Rattle.std.proofs.Common.{get_or-take}
use Rattle.std.proofs.lemmas.Option.{slice_get_within, get_or_from_slice_get, slice_get-get_or}

module _ {A : Type 0} (n from : ℕ) (xs : List A) where
  -- how many a part has
  pub part_length : length (take n (drop from xs)) ≡ min n (length xs - from)
  part_length = length-take n (drop from xs) ∙ ap (min n) (length-drop from xs)

  -- where an element of the part is
  pub part_within : (i : ℕ) (x : A) → slice_get (take n (drop from xs)) i ≡ Some x → (i < n) × (from + i < length xs)
  part_within i x at = let low = slice_get_within (take n (drop from xs)) i x at in (omega (arith, low, part_length), omega (arith, low, part_length))

  -- what is in the part is in the list
  pub part_at : (i : ℕ) (x : A) → slice_get (take n (drop from xs)) i ≡ Some x → slice_get xs (from + i) ≡ Some x
  part_at i x at =
      let low = part_within i x at in
      slice_get-get_or xs (from + i) x low.1 ∙ ap Some (sym (get_or-drop from xs i x) ∙ sym (get_or-take n (drop from xs) i x low.0) ∙ get_or_from_slice_get (take n (drop from xs)) i x x at)

  -- what is in the list is in the part that has the place
  pub part_has : (i : ℕ) (x : A) → i < n → slice_get xs (from + i) ≡ Some x → slice_get (take n (drop from xs)) i ≡ Some x
  part_has i x low at =
      let within = slice_get_within xs (from + i) x at in
      slice_get-get_or (take n (drop from xs)) i x (omega (arith, low, within, part_length)) ∙ ap Some (get_or-take n (drop from xs) i x low ∙ get_or-drop from xs i x ∙ get_or_from_slice_get xs (from + i) x x at)

-- what is at a place of the first ones, or that nothing is
first_is : {A : Type 0} (n : ℕ) (xs : List A) (i : ℕ) → i < n → slice_get (take n xs) i ≡ slice_get xs i
first_is zero xs i low = absurd (omega (arith, low))
first_is (suc n) [] i low = refl
first_is (suc n) (x ∷ xs) zero low = refl
first_is (suc n) (x ∷ xs) (suc i) low = first_is n xs i (omega (arith, low))

-- and of a part that may have the place
pub part_is : {A : Type 0} (n from : ℕ) (xs : List A) (i : ℕ) → i < n → slice_get (take n (drop from xs)) i ≡ slice_get xs (from + i)
part_is n zero xs i low = first_is n xs i low ∙ ap (slice_get xs) {x = i} {y = 0 + i} (omega arith)
part_is n (suc from) [] i low = first_is n [] i low
part_is n (suc from) (x ∷ xs) i low = part_is n from xs i low ∙ ap (slice_get (x ∷ xs)) {x = suc (from + i)} {y = suc from + i} (omega arith)

-- bytes cut out of a part of others, with more behind it
pub cut_out : {A : Type 0} (n at count from : ℕ) (xs more : List A) → at + count ≤ n → from + at + count ≤ length xs → take count (drop at (take n (drop from xs) ++ more)) ≡ take count (drop (from + at) xs)
cut_out n at count from xs more low high =
    let size = part_length n from xs in
    ap (take count) (drop-append-le at (take n (drop from xs)) more (omega (arith, size, low, high)))
    ∙ take-append-le count (drop at (take n (drop from xs))) more (omega (arith, size, low, high, length-drop at (take n (drop from xs))))
    ∙ ap (λ m. take count (drop at (take m (drop from xs)))) {x = n} {y = at + (n - at)} (omega (arith, low))
    ∙ ap (take count) (drop-take at (n - at) (drop from xs))
    ∙ take-take count (n - at) (drop at (drop from xs)) (omega (arith, low))
    ∙ ap (take count) (drop-drop at from xs)
