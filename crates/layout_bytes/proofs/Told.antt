-- What is read from bytes tells them.
use Rattle.std.proofs.Common.{◌≡◌, ℕ, zero, suc, ◌/◌, ◌%◌, ◌^◌, ◌==◌, [], ◌∷◌, ◌++◌, take, drop, replicate, refl, sym, ap, ap₂, ◌∙◌, arith, eqb-true}
use Rattle.std.proofs.lemmas.Bool.{and_parts}
use Rattle.std.proofs.lemmas.List.{take-append-drop, length-take-le}
use Rattle.std.proofs.Math.Nat.{div-div-eq-div-mul, pow-succ'}
use Rattle.std.specs.Int.{byte_at, bytes_low_first}
use Rattle.byteorder.specs.Endian.{little_number, little_bytes}
use Rattle.byteorder.specs.Numbers.{little_from-cons}
use Rattle.layout_bytes.specs.Bytes.{are_zeros, ZerosAreTold, FirstZerosAreTold, NumbersAreTold}

pub told_zeros : ZerosAreTold
told_zeros [] e = refl
told_zeros (x ∷ xs) e =
    let both = and_parts (x == 0) (are_zeros xs) e in
    ap₂ ◌∷◌ (eqb-true x 0 both.0) (told_zeros xs both.1)

pub told_first_zeros : FirstZerosAreTold
told_first_zeros n xs few e =
    sym (take-append-drop n xs)
    ∙ ap (λ ys. ys ++ drop n xs) (told_zeros (take n xs) e ∙ ap (λ k. replicate k 0) (length-take-le n xs few))

-- a byte of a number is one of its part above the lowest byte
byte_above : (j x : ℕ) → byte_at (suc j) x ≡ byte_at j (x / 256)
byte_above zero x = omega arith
byte_above (suc j) x = ap (λ d. d % 256) (ap (λ p. x / p) (pow-succ' 256 (suc j)) ∙ sym (div-div-eq-div-mul x 256 (256 ^ suc j)))

bytes_above : (k j x : ℕ) → bytes_low_first (suc j) k x ≡ bytes_low_first j k (x / 256)
bytes_above zero j x = refl
bytes_above (suc k) j x = ap₂ ◌∷◌ (byte_above j x) (bytes_above k (suc j) x)

pub told_numbers : NumbersAreTold
told_numbers zero xs few low = refl
told_numbers (suc n) [] few low = absurd (omega arith)
told_numbers (suc n) (x ∷ xs) few low =
    let above = little_from-cons 0 n x xs in
    let lowest : little_number (suc n) (x ∷ xs) % 256 ≡ x = omega (arith, low 0) in
    let rest : little_number (suc n) (x ∷ xs) / 256 ≡ little_number n xs = omega (arith, low 0, above) in
    ap₂ ◌∷◌ (sym lowest)
    (told_numbers n xs (omega arith) (λ i. low (suc i))
    ∙ ap (λ v. little_bytes n v ++ drop n xs) (sym rest)
    ∙ ap (λ ys. ys ++ drop n xs) (sym (bytes_above n 0 (little_number (suc n) (x ∷ xs)))))
