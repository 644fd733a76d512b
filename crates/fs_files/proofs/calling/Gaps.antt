-- The zeros that fill a gap.
use Rattle.std.proofs.Common.{◌≡◌, ℕ, ◌-◌, ◌≤◌, List, take, replicate, ap, ◌∙◌, arith, rules}
use Rattle.std.proofs.lemmas.List.{places, same_lists}

take_zeros : (n long : ℕ) → n ≤ long → ◌≡◌ {A = List ℕ} (take n (replicate long 0)) (replicate n 0)
take_zeros n long few = same_lists _ _ (search (rules, places)) (λ k d h. grind (arith, places))

-- the first ones of a block of zeros, up to where the gap stops
pub gap_zeros : (stop size end : ℕ) → stop ≡ end → end - size ≤ 1024 → ◌≡◌ {A = List ℕ} (take (stop - size) (replicate 1024 0)) (replicate (end - size) 0)
gap_zeros stop size end is few = ap (λ n. take (n - size) (replicate 1024 0)) is ∙ take_zeros (end - size) 1024 few
