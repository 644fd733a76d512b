-- At how many places of a range kept blocks stand, counted over the part of the list that it is.
use Rattle.std.proofs.Common.{◌≡◌, ◌⊎◌, inl, inr, ℕ, zero, suc, ◌+◌, ◌-◌, ◌≤◌, Bool, true, false, not, List, [], ◌∷◌, length, take, take_all, drop, cond, refl, sym, ap, ◌∙◌, arith}
use Rattle.std.specs.Prelude.{None, Some, slice_get}
use Rattle.std.specs.List.{filter, range_with_len}
use Rattle.std.proofs.lemmas.List.{drop_all}
use Rattle.std.proofs.lemmas.List.Filters.{length-filter_both}
use Rattle.std.proofs.lemmas.List.FromFn.{length-range_with_len}
use Rattle.fs_files.specs.Shared.{is_kept, is_kept_at}

-- the front of an empty list
take_nil : (xs : List ℕ) (n : ℕ) → xs ≡ [] → take n xs ≡ []
take_nil xs n e = take_all n xs (omega (arith, ap length e)) ∙ e

one_of : {X : Type 0} (t : Bool) (x : X) (xs : List X) → length (cond t (x ∷ xs) xs) ≡ cond t 1 0 + length xs
one_of true x xs = omega arith
one_of false x xs = omega arith

-- what stands at a place, and what is behind it
at_place : (xs : List ℕ) (i : ℕ) → ((b : ℕ) × (slice_get xs i ≡ Some b) × (drop i xs ≡ b ∷ drop (i + 1) xs)) ⊎ ((slice_get xs i ≡ None) × (drop i xs ≡ []) × (drop (i + 1) xs ≡ []))
at_place [] i = inr (refl, drop_all i [] (omega arith), drop_all (i + 1) [] (omega arith))
at_place (x ∷ xs) zero = inl (x, refl, refl)
at_place (x ∷ xs) (suc i) = by (at_place xs i)
  where
    next : drop (i + 1) xs ≡ drop (suc i + 1) (x ∷ xs)
    next = ap (λ n. drop n (x ∷ xs)) {x = suc (i + 1)} {y = suc i + 1} (omega arith)

    by : ((b : ℕ) × (slice_get xs i ≡ Some b) × (drop i xs ≡ b ∷ drop (i + 1) xs)) ⊎ ((slice_get xs i ≡ None) × (drop i xs ≡ []) × (drop (i + 1) xs ≡ []))
        → ((b : ℕ) × (slice_get (x ∷ xs) (suc i) ≡ Some b) × (drop (suc i) (x ∷ xs) ≡ b ∷ drop (suc i + 1) (x ∷ xs))) ⊎ ((slice_get (x ∷ xs) (suc i) ≡ None) × (drop (suc i) (x ∷ xs) ≡ []) × (drop (suc i + 1) (x ∷ xs) ≡ []))
    by (inl (b, is, rest)) = inl (b, is, rest ∙ ap (λ ys. b ∷ ys) next)
    by (inr (is, none, behind)) = inr (is, none, sym next ∙ behind)

-- one place more, with what stands there
kept_one : (counts xs : List ℕ) (from n : ℕ) → length (filter (λ i. is_kept_at counts (slice_get xs i)) (range_with_len (from + 1) n)) ≡ length (filter (is_kept counts) (take n (drop (from + 1) xs)))
    → ((b : ℕ) × (slice_get xs from ≡ Some b) × (drop from xs ≡ b ∷ drop (from + 1) xs)) ⊎ ((slice_get xs from ≡ None) × (drop from xs ≡ []) × (drop (from + 1) xs ≡ []))
    → cond (is_kept_at counts (slice_get xs from)) 1 0 + length (filter (λ i. is_kept_at counts (slice_get xs i)) (range_with_len (from + 1) n)) ≡ length (filter (is_kept counts) (take (suc n) (drop from xs)))
kept_one counts xs from n behind (inl (b, is, rest)) =
    (λ i. cond (is_kept_at counts (is i)) 1 0 + behind i)
    ∙ sym (one_of (is_kept counts b) b (filter (is_kept counts) (take n (drop (from + 1) xs))))
    ∙ ap (λ ys. length (filter (is_kept counts) (take (suc n) ys))) (sym rest)
kept_one counts xs from n behind (inr (is, none, empty)) =
    (λ i. cond (is_kept_at counts (is i)) 1 0 + behind i)
    ∙ ap (λ ys. 0 + length (filter (is_kept counts) ys)) (take_nil (drop (from + 1) xs) n empty)
    ∙ ap (λ ys. length (filter (is_kept counts) (take (suc n) ys))) (sym none)

-- a range of the places has as many kept blocks as that part of the list
pub kept_range : (counts xs : List ℕ) (from n : ℕ) → length (filter (λ i. is_kept_at counts (slice_get xs i)) (range_with_len from n)) ≡ length (filter (is_kept counts) (take n (drop from xs)))
kept_range counts xs from zero = refl
kept_range counts xs from (suc n) =
    one_of (is_kept_at counts (slice_get xs from)) from (filter (λ i. is_kept_at counts (slice_get xs i)) (range_with_len (from + 1) n))
    ∙ kept_one counts xs from n (kept_range counts xs (from + 1) n) (at_place xs from)

-- where there are no numbers nothing is kept
none_kept : (xs : List ℕ) → length (filter (is_kept []) xs) ≡ 0
none_kept [] = refl
none_kept (x ∷ xs) = none_kept xs

pub none_range : (counts xs : List ℕ) (from n : ℕ) → counts ≡ [] → length (filter (λ i. is_kept_at counts (slice_get xs i)) (range_with_len from n)) ≡ 0
none_range counts xs from n none = kept_range counts xs from n ∙ ap (λ ks. length (filter (is_kept ks) (take n (drop from xs)))) none ∙ none_kept (take n (drop from xs))

-- and the others are the rest of the range
pub rest_range : (counts xs : List ℕ) (from n k : ℕ) → k ≡ length (filter (λ i. is_kept_at counts (slice_get xs i)) (range_with_len from n))
    → (length (filter (λ i. not (is_kept_at counts (slice_get xs i))) (range_with_len from n)) ≡ n - k) × (k ≤ n)
rest_range counts xs from n k is =
    let both = length-filter_both (λ (i : ℕ). is_kept_at counts (slice_get xs i)) (λ (i : ℕ). not (is_kept_at counts (slice_get xs i))) (λ i. refl) (range_with_len from n) in
    let all = length-range_with_len from n in
    (omega (arith, is, both, all), omega (arith, is, both, all))
