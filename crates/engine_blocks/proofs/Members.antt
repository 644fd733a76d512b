-- Which numbers a list has, and which blocks of the bitmap have their bits.
use Rattle.std.proofs.Common.{◌≡◌, ℕ, suc, ◌==◌, true, ◌||◌, List, [], ◌∷◌, ◌++◌, All, arith}
use Rattle.std.proofs.lemmas.Bool.Decides.{nat_tests}
use Rattle.layout_geometry.specs.Geometry.{Geometry}
use Rattle.engine_blocks.specs.Running.{has, has_bit, bit_block}

-- A list of one, and one more.

pub has_one : (b c : ℕ) → has (b ∷ []) c ≡ (c == b)
has_one b c = grind arith

pub has_bit_one : (g : Geometry) (b c : ℕ) → has_bit g (b ∷ []) c ≡ (c == bit_block g b)
has_bit_one g b c = grind arith

pub has_push : (xs : List ℕ) (b c : ℕ) → has (xs ++ b ∷ []) c ≡ (has xs c || (c == b))
has_push [] b c = grind arith
has_push (x ∷ xs) b c = grind (arith, has_push xs b c)

pub has_bit_push : (g : Geometry) (xs : List ℕ) (b c : ℕ) → has_bit g (xs ++ b ∷ []) c ≡ (has_bit g xs c || (c == bit_block g b))
has_bit_push g [] b c = grind arith
has_bit_push g (x ∷ xs) b c = grind (arith, has_bit_push g xs b c)

-- Places.

-- what holds of all numbers of a list holds of each that it has
pub among : (P : ℕ → Type 0) (bs : List ℕ) → All P bs → (c : ℕ) → has bs c ≡ true → P c
among P [] all c is = grind arith
among P (x ∷ xs) all c is = grind (arith, nat_tests, all 0 0, among P xs (λ i d low. all (suc i) d (omega (arith, low))) c)
