-- The first numbers of a list have no more stretches than all of them.
use Rattle.std.proofs.Common.{ℕ, zero, suc, ◌≤◌, cond, List, [], ◌∷◌, take, arith}
use Rattle.std.specs.List.{zip, count_by}
use Rattle.std.proofs.lemmas.List.Sums.{sum_by-cons}
use Rattle.layout_extent.specs.Runs.{is_break, stretches}

breaks_cut : (n x : ℕ) (xs : List ℕ) → count_by is_break (zip (x ∷ take n xs) (take n xs)) ≤ count_by is_break (zip (x ∷ xs) xs)
breaks_cut zero x xs = omega arith
breaks_cut (suc n) x [] = omega arith
breaks_cut (suc n) x (y ∷ ys) =
    let rest = breaks_cut n y ys in
    omega (arith, rest, sum_by-cons (λ p. cond (is_break p) 1 0) (x, y) (zip (y ∷ take n ys) (take n ys)), sum_by-cons (λ p. cond (is_break p) 1 0) (x, y) (zip (y ∷ ys) ys))

pub stretches_cut : (n : ℕ) (xs : List ℕ) → stretches (take n xs) ≤ stretches xs
stretches_cut zero xs = omega arith
stretches_cut (suc n) [] = omega arith
stretches_cut (suc n) (x ∷ xs) = omega (arith, breaks_cut n x xs)
