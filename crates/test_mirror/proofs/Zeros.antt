-- Two lists of blocks of zeros are equal where they are equally long.
use Rattle.std.proofs.Common.{◌≡◌, ℕ, zero, suc, List, length, replicate, refl, sym, ◌∙◌, ap}
use Rattle.base_types.specs.Seal.{blocks_of}
use Rattle.disk_contract.specs.Bay.{zero_blocks}

-- so many items are so many
length_copies : (n : ℕ) (x : List ℕ) → length (replicate n x) ≡ n
length_copies zero x = refl
length_copies (suc n) x = ap suc (length_copies n x)

pub zeros_alike : (p q : List (List ℕ)) (m k : ℕ) → p ≡ zero_blocks m → q ≡ zero_blocks k → length p ≡ length q → (n : ℕ) → blocks_of q n ≡ blocks_of p n
zeros_alike p q m k first second same n =
    let size : k ≡ m = sym (ap (λ (l : List (List ℕ)). length l) second ∙ length_copies k (replicate 1024 0)) ∙ sym same ∙ ap (λ (l : List (List ℕ)). length l) first ∙ length_copies m (replicate 1024 0) in
    ap (λ (l : List (List ℕ)). blocks_of l n) (second ∙ ap zero_blocks size ∙ sym first)
