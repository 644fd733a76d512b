-- An image of zeros becomes that of the formatted disk block by block.
use Rattle.std.proofs.Common.{◌≡◌, ◌≢◌, ℕ, ◌+◌, ◌<◌, ◌≤◌, ◌⊎◌, inl, inr, List, [], length, slice_set, replicate, sym, ap, ◌∙◌, arith}
use Rattle.std.proofs.lemmas.Bool.{cases_eq, cases_lt}
use Rattle.std.proofs.lemmas.List.{length-set, length-replicate, get_or-replicate, get_or-set_same, get_or-set_other}
use Rattle.base_types.specs.Seal.{Blocks, blocks_of}
use Rattle.disk_contract.specs.Bay.{zero_blocks}

-- the first b blocks are those of m, and the others up to n are zeros
pub record HasFirst (m : Blocks) (n : ℕ) (image : List (List ℕ)) (b : ℕ) : Type 0 where
  pub size : length image ≡ n
  pub first : (k : ℕ) → k < b → blocks_of image k ≡ m k
  pub rest : (k : ℕ) → b ≤ k → k < n → blocks_of image k ≡ replicate 1024 0

pub none_yet : (m : Blocks) (n : ℕ) (image : List (List ℕ)) → image ≡ zero_blocks n → HasFirst m n image 0
none_yet m n image e = record {
  size = ap length e ∙ length-replicate {A = List ℕ} n (replicate 1024 0);
  first = λ k low. absurd (omega (arith, low));
  rest = λ k from low. ap (λ l. blocks_of l k) e ∙ get_or-replicate n k (replicate 1024 0) [] low;
}

pub one_more : (m : Blocks) (n : ℕ) (old new : List (List ℕ)) (b : ℕ) (block : List ℕ) → HasFirst m n old b → b < n → block ≡ m b → new ≡ slice_set old b block → HasFirst m n new (b + 1)
one_more m n old new b block h low is set = record {
  size = ap length set ∙ length-set old b block ∙ h.size;
  first = λ k below. first_by k below (cases_eq k b);
  rest = λ k from below. elsewhere k (λ e. omega (arith, e, from)) ∙ h.rest k (omega (arith, from)) below;
}
  where
    elsewhere : (k : ℕ) → k ≢ b → blocks_of new k ≡ blocks_of old k
    elsewhere k d = ap (λ l. blocks_of l k) set ∙ get_or-set_other old b k block [] d

    first_by : (k : ℕ) → k < b + 1 → (k ≡ b) ⊎ (k ≢ b) → blocks_of new k ≡ m k
    first_by k below (inl e) = ap (blocks_of new) e ∙ ap (λ l. blocks_of l b) set ∙ get_or-set_same old b block [] (omega (arith, low, h.size)) ∙ is ∙ sym (ap m e)
    first_by k below (inr d) = elsewhere k d ∙ h.first k (omega (arith, below, d))

-- where m has zeros from b on, all is written
pub all_there : (m : Blocks) (n : ℕ) (image : List (List ℕ)) (b : ℕ) → HasFirst m n image b → ((k : ℕ) → b ≤ k → m k ≡ replicate 1024 0) → (k : ℕ) → k < n → blocks_of image k ≡ m k
all_there m n image b h zeros k low = by (cases_lt k b)
  where
    by : (k < b) ⊎ (b ≤ k) → blocks_of image k ≡ m k
    by (inl below) = h.first k below
    by (inr from) = h.rest k from low ∙ sym (zeros k from)
