-- The bytes of a directory's blocks past its end: they are zeros, and each call keeps them so. Sizes are named as in the file of contents.
use Rattle.std.proofs.Common.{◌≡◌, ◌⊎◌, inl, inr, ℕ, zero, suc, ◌+◌, ◌-◌, ◌≤◌, ◌<◌, Bool, true, false, IsTrue, ◌==◌, ◌&&◌, List, [], ◌∷◌, ◌++◌, length, drop, replicate, get_or, max, refl, sym, ap, ◌∙◌, arith}
use Rattle.std.proofs.lemmas.List.{places, length-drop, get_or-drop, get_or_past}
use Rattle.std.proofs.lemmas.Bool.Decides.{nat_tests}
use Rattle.std.proofs.lemmas.Bool.{and_parts}
use Rattle.layout_bytes.specs.Bytes.{are_zeros}
use Rattle.fs_files.specs.Bytes.{overwrite}

-- zeros one by one

pub zero_at : (xs : List ℕ) (k : ℕ) → IsTrue (are_zeros xs) → k < length xs → get_or xs k 0 ≡ 0
zero_at [] k zeros l = refl
zero_at (x ∷ xs) zero zeros l = let p : (x == 0) ≡ true = (and_parts (x == 0) (are_zeros xs) zeros).0 in grind (arith, nat_tests)
zero_at (x ∷ xs) (suc k) zeros l = zero_at xs k (and_parts (x == 0) (are_zeros xs) zeros).1 (omega arith)

pub zeros_from : (xs : List ℕ) → ((k : ℕ) → k < length xs → get_or xs k 0 ≡ 0) → IsTrue (are_zeros xs)
zeros_from [] each = refl
zeros_from (x ∷ xs) each = by (x == 0) (first (each 0 (omega arith))) (zeros_from xs (λ k l. each (suc k) (omega arith)))
  where
    first : x ≡ 0 → (x == 0) ≡ true
    first e = grind (arith, nat_tests)

    by : (t : Bool) → t ≡ true → IsTrue (are_zeros xs) → IsTrue (t && are_zeros xs)
    by true e rest = rest
    by false e rest = absurd cc

-- what is zero past the end, place by place in the whole
pub zero_past : (size : ℕ) (xs : List ℕ) → IsTrue (are_zeros (drop size xs)) → (k : ℕ) → size ≤ k → get_or xs k 0 ≡ 0
zero_past size xs zeros k past = by (cases k (length xs))
  where
    cases : (a b : ℕ) → (a < b) ⊎ (b ≤ a)
    cases a b = grind arith

    by : (k < length xs) ⊎ (length xs ≤ k) → get_or xs k 0 ≡ 0
    by (inl l) =
        ap (λ i. get_or xs i 0) {x = k} {y = size + (k - size)} (omega arith) ∙ sym (get_or-drop size xs (k - size) 0)
        ∙ zero_at (drop size xs) (k - size) zeros (omega (arith, length-drop size xs))
    by (inr l) = get_or_past xs k 0 l

-- and whatever a list is said to have behind its end
any_zero : (xs : List ℕ) (k z : ℕ) → IsTrue (are_zeros xs) → k < length xs → get_or xs k z ≡ 0
any_zero [] k z zeros l = absurd (omega (arith, l))
any_zero (x ∷ xs) zero z zeros l = let p : (x == 0) ≡ true = (and_parts (x == 0) (are_zeros xs) zeros).0 in grind (arith, nat_tests)
any_zero (x ∷ xs) (suc k) z zeros l = any_zero xs k z (and_parts (x == 0) (are_zeros xs) zeros).1 (omega arith)

pub zero_within : (size : ℕ) (xs : List ℕ) → IsTrue (are_zeros (drop size xs)) → (k z : ℕ) → size ≤ k → k < length xs → get_or xs k z ≡ 0
zero_within size xs zeros k z past low =
    ap (λ i. get_or xs i z) {x = k} {y = size + (k - size)} (omega (arith, past)) ∙ sym (get_or-drop size xs (k - size) z)
    ∙ any_zero (drop size xs) (k - size) z zeros (omega (arith, length-drop size xs, past, low))

-- a write from within or from the end on
pub past_written : (size off n : ℕ) (ys xs : List ℕ) → IsTrue (are_zeros (drop size xs)) → size ≤ length xs → off + length ys ≤ length xs + n
    → IsTrue (are_zeros (drop (max size (off + length ys)) (overwrite off ys (xs ++ replicate n 0))))
past_written size off n ys xs zeros fits ends = zeros_from (drop (max size (off + length ys)) (overwrite off ys (xs ++ replicate n 0))) (λ k l. each k (zero_past size xs zeros (max size (off + length ys) + k) (omega arith)) l)
  where
    each : (k : ℕ) → get_or xs (max size (off + length ys) + k) 0 ≡ 0 → k < length (drop (max size (off + length ys)) (overwrite off ys (xs ++ replicate n 0))) → get_or (drop (max size (off + length ys)) (overwrite off ys (xs ++ replicate n 0))) k 0 ≡ 0
    each k past l = grind (arith, places, past)

-- a cut, once all past the new end was filled with zeros
pub past_cut : (less room : ℕ) (xs : List ℕ) → length xs ≡ room → less ≤ room → IsTrue (are_zeros (drop less (overwrite less (replicate (room - less) 0) xs)))
past_cut less room xs is cuts = grind (arith, nat_tests, zeros_from, places)
