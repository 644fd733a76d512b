-- How many entries and numbers there are at most, where no two are the same.
use Rattle.std.proofs.Common.{◌≡◌, ◌≢◌, ℕ, zero, suc, ◌+◌, ◌<◌, ◌≤◌, ◌==◌, true, false, cond, ◌||◌, List, [], ◌∷◌, length, get_or, All, AllPairs, refl, sym, ap, ◌∙◌, arith, ◌⊎◌, inl, inr}
use Rattle.std.proofs.lemmas.Bool.{cases_Bool, cases_eq, eq-eqb, ne_eqb, eqb-true, false≢true, or_right}
use Rattle.std.proofs.lemmas.List.{length-map, get_or-map}
use Rattle.std.proofs.lemmas.Map.Keys.{below_from_sorted}
use Rattle.std.specs.List.Sorted.{IsStrictlySortedBy}
use Rattle.std.specs.Ordering.{nat_cmp}
use Rattle.std.specs.Map.{keys_of}
use Rattle.engine_blocks.specs.Running.{has}
use Rattle.fs_files.specs.declared.changes.Changed.{Changed}

-- entries whose keys ascend have keys that differ
pub keys_apart : (cs : List (ℕ × Changed)) → IsStrictlySortedBy nat_cmp (keys_of cs) → AllPairs (λ (a b : ℕ × Changed). a.0 ≢ b.0) cs
keys_apart cs sorted i j d low high e =
    let key : ℕ × Changed → ℕ = λ c. c.0 in
    omega (arith, e, below_from_sorted (keys_of cs) i j (key d) sorted low (omega (arith, high, length-map cs key)), get_or-map key cs i d, get_or-map key cs j d)

-- a list without the first x
abbrev without : ℕ → List ℕ → List ℕ
without x [] = []
without x (b ∷ bs) = cond (b == x) bs (b ∷ without x bs)

has_without : (x : ℕ) (bs : List ℕ) (c : ℕ) → has bs c ≡ true → c ≢ x → has (without x bs) c ≡ true
has_without x [] c is d = absurd (false≢true is)
has_without x (b ∷ bs) c is d = by (cases_Bool (b == x)) (cases_Bool (c == b)) (λ h. has_without x bs c h d)
  where
    by : ((b == x) ≡ true) ⊎ ((b == x) ≡ false) → ((c == b) ≡ true) ⊎ ((c == b) ≡ false) → (has bs c ≡ true → has (without x bs) c ≡ true) → has (without x (b ∷ bs)) c ≡ true
    by (inl e) (inl f) rec = absurd (d (eqb-true c b f ∙ eqb-true b x e))
    by (inl e) (inr f) rec = ap (λ t. has (cond t bs (b ∷ without x bs)) c) e ∙ sym (ap (λ t. t || has bs c) f) ∙ is
    by (inr e) (inl f) rec = ap (λ t. has (cond t bs (b ∷ without x bs)) c) e ∙ ap (λ t. t || has (without x bs) c) f
    by (inr e) (inr f) rec = ap (λ t. has (cond t bs (b ∷ without x bs)) c) e ∙ or_right (c == b) (has (without x bs) c) (rec (sym (ap (λ t. t || has bs c) f) ∙ is))

less_without : (x : ℕ) (bs : List ℕ) → has bs x ≡ true → length (without x bs) + 1 ≤ length bs
less_without x [] is = absurd (false≢true is)
less_without x (b ∷ bs) is = by (cases_Bool (b == x)) (less_without x bs)
  where
    by : ((b == x) ≡ true) ⊎ ((b == x) ≡ false) → (has bs x ≡ true → length (without x bs) + 1 ≤ length bs) → length (without x (b ∷ bs)) + 1 ≤ length (b ∷ bs)
    by (inl e) rec = omega (arith, ap (λ t. length (cond t bs (b ∷ without x bs))) e)
    by (inr e) rec = omega (arith, ap (λ t. length (cond t bs (b ∷ without x bs))) e, rec (sym (ap (λ t. t || has bs x) (ne_eqb x b (λ h. false≢true (sym e ∙ eq-eqb b x (sym h))))) ∙ is))

-- there are no more things than numbers in a list that has all their keys, where no two keys are the same
pub few : {X : Type 0} (key : X → ℕ) (xs : List X) (bs : List ℕ) → AllPairs (λ (a b : X). key a ≢ key b) xs → All (λ (a : X). has bs (key a) ≡ true) xs → length xs ≤ length bs
few key [] bs pairs all = omega arith
few key (x ∷ xs) bs pairs all =
    omega (
      arith,
      less_without (key x) bs (all 0 x (omega arith)),
      few key xs (without (key x) bs) (λ i j d low high. pairs (suc i) (suc j) d (omega (arith, low)) (omega (arith, high)))
          (λ i d low. has_without (key x) bs (key (get_or xs i d)) (all (suc i) d (omega (arith, low))) (λ e. pairs 0 (suc i) d (omega arith) (omega (arith, low)) (sym e))),
    )

abbrev upto : ℕ → List ℕ
upto zero = []
upto (suc n) = n ∷ upto n

has_upto : (n c : ℕ) → c < n → has (upto n) c ≡ true
has_upto zero c low = absurd (omega (arith, low))
has_upto (suc n) c low = by (cases_eq c n) (has_upto n c)
  where
    by : (c ≡ n) ⊎ (c ≢ n) → (c < n → has (upto n) c ≡ true) → has (upto (suc n)) c ≡ true
    by (inl e) rec = ap (λ t. t || has (upto n) c) (eq-eqb c n e)
    by (inr d) rec = or_right (c == n) (has (upto n) c) (rec (omega (arith, low, d)))

length_upto : (n : ℕ) → length (upto n) ≡ n
length_upto zero = refl
length_upto (suc n) = omega (arith, length_upto n)

-- there are no more than n, where each key is below n
pub few_below : {X : Type 0} (key : X → ℕ) (xs : List X) (n : ℕ) → AllPairs (λ (a b : X). key a ≢ key b) xs → All (λ (a : X). key a < n) xs → length xs ≤ n
few_below key xs n pairs all = omega (arith, few key xs (upto n) pairs (λ i d low. has_upto n (key (get_or xs i d)) (all i d low)), length_upto n)
