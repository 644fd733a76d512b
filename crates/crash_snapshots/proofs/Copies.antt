-- Blocks that were copied one by one have the bytes that the others had, and so have the parts of them.
use Rattle.std.proofs.Common.{◌≡◌, ℕ, suc, List, [], ◌∷◌, ◌++◌, length, take, drop, slice_get, Some, refl, ap, ◌∙◌}
use Rattle.base_types.specs.Seal.{Blocks}
use Rattle.crash_stands.specs.Files.{joined}
use Rattle.crash_snapshots.specs.Kept.{AreCopies}

-- blocks that are as before are copies of themselves
pub own_copies : (m n : Blocks) (bs : List ℕ) → ((i b : ℕ) → slice_get bs i ≡ Some b → n b ≡ m b) → AreCopies m n bs bs
own_copies m n [] same = tt
own_copies m n (b ∷ bs) same = (same 0 b refl, own_copies m n bs (λ i c e. same (suc i) c e))

module _ (old new : Blocks) where
  pub joined_copies : (bs ps : List ℕ) → AreCopies old new bs ps → joined new ps ≡ joined old bs
  joined_copies [] [] is = refl
  joined_copies [] (p ∷ ps) is = absurd is
  joined_copies (b ∷ bs) [] is = absurd is
  joined_copies (b ∷ bs) (p ∷ ps) is = ap (λ xs. xs ++ joined new ps) is.0 ∙ ap (λ xs. old b ++ xs) (joined_copies bs ps is.1)

  pub copies_front : (xs ys ps : List ℕ) → AreCopies old new (xs ++ ys) ps → AreCopies old new xs (take (length xs) ps)
  copies_front [] ys ps is = tt
  copies_front (x ∷ xs) ys [] is = absurd is
  copies_front (x ∷ xs) ys (p ∷ ps) is = (is.0, copies_front xs ys ps is.1)

  pub copies_rest : (xs ys ps : List ℕ) → AreCopies old new (xs ++ ys) ps → AreCopies old new ys (drop (length xs) ps)
  copies_rest [] ys ps is = is
  copies_rest (x ∷ xs) ys [] is = absurd is
  copies_rest (x ∷ xs) ys (p ∷ ps) is = copies_rest xs ys ps is.1
