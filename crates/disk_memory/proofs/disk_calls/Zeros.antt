-- A list of blocks of zeros grows by one more of them, and has the bytes of blocks.
use Rattle.std.proofs.Common.{◌≡◌, ℕ, ◌<◌, ◌^◌, List, [], ◌∷◌, ◌++◌, length, sym, ◌∙◌, ap, length-append, arith}
use Rattle.std.specs.Prelude.{replicate, get_or}
use Rattle.std.proofs.lemmas.List.{replicate_more, length-replicate, get_or-replicate}
use Rattle.disk_contract.specs.Lawful.{IsBlock}
use Rattle.disk_memory.specs.Image.{AreBlocks}

-- one more of the same
pub same_more : (z : List ℕ) (xs ys : List (List ℕ)) → xs ≡ replicate (length xs) z → ys ≡ xs ++ z ∷ [] → ys ≡ replicate (length ys) z
same_more z xs ys same more =
    more ∙ ap (λ (l : List (List ℕ)). l ++ z ∷ []) same ∙ replicate_more (length xs) z ∙ ap (λ n. replicate n z) (sym (ap length more ∙ length-append xs (z ∷ [])))

-- a block of zeros has the bytes of a block
zero_block : (x : List ℕ) → x ≡ replicate 1024 0 → IsBlock x
zero_block x zeros = record {
  length = ap length zeros ∙ length-replicate {A = ℕ} 1024 0;
  bytes = λ i lt. omega (arith, ap (λ y. get_or y i 0) zeros, get_or-replicate {A = ℕ} 1024 i 0 0 lt);
}

-- so have blocks of zeros
pub zeros_are_blocks : (xs : List (List ℕ)) → xs ≡ replicate (length xs) (replicate 1024 0) → length xs < 2 ^ 32 → AreBlocks xs
zeros_are_blocks xs same short = record {
  short = short;
  whole = λ b lt. zero_block _ (ap (λ ys. get_or ys b []) same ∙ get_or-replicate (length xs) b (replicate 1024 0) [] lt);
}
