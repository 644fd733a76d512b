-- Lists of bytes that all pass a test, the digits of numbers, and the bytes of a block.
use Rattle.std.proofs.Common.{◌≡◌, arith, ℕ, zero, suc, ◌<◌, List, [], ◌∷◌, length}
use Rattle.std.specs.Prelude.{slice_index_or}
use Rattle.hex.specs.Hex.{IsBytes}
use Rattle.disk_contract.specs.Lawful.{IsBlock}

all_small : (xs : List ℕ) → ((i : ℕ) → i < length xs → slice_index_or xs i 0 < 256) → IsBytes xs
all_small [] h i = omega arith
all_small (x ∷ xs) h zero = h 0 (omega arith)
all_small (x ∷ xs) h (suc i) = all_small xs (λ k low. h (suc k) (omega (arith, low))) i

pub block_is_bytes : (xs : List ℕ) → IsBlock xs → IsBytes xs
block_is_bytes xs h = all_small xs (λ i low. h.bytes i (omega (arith, low, h.length)))
