-- Fronts and backs of lists, as buffers have them.
use Rattle.std.proofs.Common.{◌≡◌, ℕ, ◌+◌, ◌-◌, ◌<◌, ◌≤◌, min, List, ◌++◌, length, take, drop, inl, inr, ◌⊎◌, sym, ap, ◌∙◌, arith, append-nil, take_all}
use Rattle.std.proofs.Math.Seq.{take-append-add}
use Rattle.std.proofs.lemmas.Bool.{cases_lt}
use Rattle.std.proofs.lemmas.List.{length-drop, length-take-le, take-append-le, take-take, drop-take, drop-drop}

-- the first ones of a part of a buffer are passed over
pub passed : (from to count : ℕ) (buffer now : List ℕ) → take (to - from) (drop from buffer) ≡ now → from ≤ to → to ≤ length buffer → count ≤ length now
    → take (to - (from + count)) (drop (from + count) buffer) ≡ drop count now
passed from to count buffer now is low high few =
    let long : length now ≡ to - from = ap (λ (l : List ℕ). length l) (sym is) ∙ length-take-le (to - from) (drop from buffer) (omega (arith, length-drop from buffer, high)) in
    let sum : count + (to - (from + count)) ≡ to - from = omega (arith, long, low, few) in
    ap (take (to - (from + count))) (sym (drop-drop count from buffer))
    ∙ sym (drop-take count (to - (from + count)) (drop from buffer))
    ∙ ap (λ k. drop count (take k (drop from buffer))) sum
    ∙ ap (drop count) is

-- the first ones of the first ones
fewer : (k count : ℕ) (xs : List ℕ) → count ≤ length xs → take k (take count xs) ≡ take (min count k) xs
fewer k count xs fits = by (cases_lt count k)
  where
    by : (count < k) ⊎ (k ≤ count) → take k (take count xs) ≡ take (min count k) xs
    by (inl l) = take_all k (take count xs) (omega (arith, l, length-take-le count xs fits)) ∙ ap (λ n. take n xs) {x = count} {y = min count k} (omega (arith, l))
    by (inr h) = take-take k count xs h ∙ ap (λ n. take n xs) {x = k} {y = min count k} (omega (arith, h))

-- a list of which at most n elements are kept, and more of it
pub kept_more : (n count : ℕ) (all line ahead : List ℕ) → line ≡ take n all → count ≤ length ahead → line ++ take (min count (n - length line)) ahead ≡ take n (all ++ take count ahead)
kept_more n count all line ahead is fits = by (cases_lt (length all) n)
  where
    by : (length all < n) ⊎ (n ≤ length all) → line ++ take (min count (n - length line)) ahead ≡ take n (all ++ take count ahead)
    by (inl l) =
        let whole : line ≡ all = is ∙ take_all n all (omega (arith, l)) in
        let room : n ≡ length all + (n - length all) = omega (arith, l) in
        ap (λ t. t ++ take (min count (n - length t)) ahead) whole
        ∙ ap (λ t. all ++ t) (sym (fewer (n - length all) count ahead fits))
        ∙ sym (take-append-add all (take count ahead) (n - length all))
        ∙ ap (λ k. take k (all ++ take count ahead)) (sym room)
    by (inr h) =
        let long : length line ≡ n = ap (λ (t : List ℕ). length t) is ∙ length-take-le n all h in
        ap (λ k. line ++ take k ahead) {x = min count (n - length line)} {y = 0} (omega (arith, long))
        ∙ append-nil line
        ∙ is
        ∙ sym (take-append-le n all (take count ahead) h)
