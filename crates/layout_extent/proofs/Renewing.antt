-- Places of which some were renewed: where the test fails they are as they were, where it holds they are new ones, and no number comes twice.
use Rattle.std.proofs.Common.{◌≡◌, ◌⊎◌, inl, inr, ℕ, zero, suc, ◌+◌, ◌<◌, ◌≤◌, Bool, true, false, if◌then◌else◌, List, [], ◌∷◌, length, slice_get, Some, refl, sym, ap, ◌∙◌, arith}
use Rattle.std.proofs.lemmas.Bool.{true≢false}
use Rattle.std.proofs.lemmas.Option.{same_Some}
use Rattle.layout_extent.specs.Renew.{renew, renewals, IsAmong, AreOnce, AreApart}

later : (x b : ℕ) (xs : List ℕ) → IsAmong xs b → IsAmong (x ∷ xs) b
later x b xs r = (suc r.0, r.1)

-- Each place is one of the old or one of the new.

pub from_either : (test : ℕ → Bool) (i : ℕ) (places more : List ℕ) (j b : ℕ) → slice_get (renew test i places more) j ≡ Some b → IsAmong places b ⊎ IsAmong more b
from_either test i [] more j b e = inr (j, e)
from_either test i (p ∷ ps) [] j b e = inl (j, e)
from_either test i (p ∷ ps) (c ∷ more) j b e = by (test i) j e (λ k is. from_either test (i + 1) ps more k b is) (λ k is. from_either test (i + 1) ps (c ∷ more) k b is)
  where
    behind_new : IsAmong ps b ⊎ IsAmong more b → IsAmong (p ∷ ps) b ⊎ IsAmong (c ∷ more) b
    behind_new (inl r) = inl (later p b ps r)
    behind_new (inr r) = inr (later c b more r)

    behind_old : IsAmong ps b ⊎ IsAmong (c ∷ more) b → IsAmong (p ∷ ps) b ⊎ IsAmong (c ∷ more) b
    behind_old (inl r) = inl (later p b ps r)
    behind_old (inr r) = inr r

    by : (t : Bool) (j : ℕ) → slice_get (if t then c ∷ renew test (i + 1) ps more else p ∷ renew test (i + 1) ps (c ∷ more)) j ≡ Some b
        → ((k : ℕ) → slice_get (renew test (i + 1) ps more) k ≡ Some b → IsAmong ps b ⊎ IsAmong more b)
        → ((k : ℕ) → slice_get (renew test (i + 1) ps (c ∷ more)) k ≡ Some b → IsAmong ps b ⊎ IsAmong (c ∷ more) b)
        → IsAmong (p ∷ ps) b ⊎ IsAmong (c ∷ more) b
    by true zero is new old = inr (0, is)
    by true (suc k) is new old = behind_new (new k is)
    by false zero is new old = inl (0, is)
    by false (suc k) is new old = behind_old (old k is)

-- Where the test fails, the place is as it was.

count_less : (test : ℕ → Bool) (i : ℕ) (ps : List ℕ) (n : ℕ) (t : Bool) → test i ≡ t → (if test i then 1 else 0) + renewals test (i + 1) ps ≤ suc n → t ≡ true → renewals test (i + 1) ps ≤ n
count_less test i ps n t is few holds = let one : ◌≡◌ {A = ℕ} (if test i then 1 else 0) 1 = ap (λ b. if b then 1 else 0) (is ∙ holds) in omega (arith, few, one)

count_same : (test : ℕ → Bool) (i : ℕ) (ps : List ℕ) (n : ℕ) → (if test i then 1 else 0) + renewals test (i + 1) ps ≤ n → renewals test (i + 1) ps ≤ n
count_same test i ps n few = omega (arith, few)

pub stays_at : (test : ℕ → Bool) (i : ℕ) (places more : List ℕ) (j : ℕ) → test (i + j) ≡ false → j < length places → slice_get (renew test i places more) j ≡ slice_get places j
stays_at test i [] more j fails within = absurd (omega (arith, within))
stays_at test i (p ∷ ps) [] j fails within = refl
stays_at test i (p ∷ ps) (c ∷ more) zero fails within = by (test i) (ap test {x = i} {y = i + 0} (omega arith) ∙ fails)
  where
    by : (t : Bool) → t ≡ false → slice_get (if t then c ∷ renew test (i + 1) ps more else p ∷ renew test (i + 1) ps (c ∷ more)) 0 ≡ Some p
    by true e = absurd (true≢false e)
    by false e = refl
stays_at test i (p ∷ ps) (c ∷ more) (suc j) fails within = by (test i) (stays_at test (i + 1) ps more j there (omega (arith, within))) (stays_at test (i + 1) ps (c ∷ more) j there (omega (arith, within)))
  where
    there : test (i + 1 + j) ≡ false
    there = ap test {x = i + 1 + j} {y = i + suc j} (omega arith) ∙ fails

    by : (t : Bool) → slice_get (renew test (i + 1) ps more) j ≡ slice_get ps j → slice_get (renew test (i + 1) ps (c ∷ more)) j ≡ slice_get ps j
        → slice_get (if t then c ∷ renew test (i + 1) ps more else p ∷ renew test (i + 1) ps (c ∷ more)) (suc j) ≡ slice_get ps j
    by true new old = new
    by false new old = old

-- Where it holds, a new one stands, if there are enough.

pub renewed_at : (test : ℕ → Bool) (i : ℕ) (places more : List ℕ) (j b : ℕ) → renewals test i places ≤ length more → test (i + j) ≡ true → j < length places → slice_get (renew test i places more) j ≡ Some b → IsAmong more b
renewed_at test i [] more j b enough holds within at = absurd (omega (arith, within))
renewed_at test i (p ∷ ps) [] j b enough holds within at = absurd (none_holds j holds within)
  where
    -- with no new ones the test holds nowhere
    nowhere : (k : ℕ) (qs : List ℕ) (l : ℕ) → renewals test k qs ≤ 0 → test (k + l) ≡ true → l < length qs → ⊥
    nowhere k [] l few is below = omega (arith, below)
    nowhere k (q ∷ qs) zero few is below = let one : ◌≡◌ {A = ℕ} (if test k then 1 else 0) 1 = ap (λ t. if t then 1 else 0) (ap test {x = k} {y = k + 0} (omega arith) ∙ is) in omega (arith, few, one)
    nowhere k (q ∷ qs) (suc l) few is below = nowhere (k + 1) qs l (omega (arith, few)) (ap test {x = k + 1 + l} {y = k + suc l} (omega arith) ∙ is) (omega (arith, below))

    none_holds : (l : ℕ) → test (i + l) ≡ true → l < length (p ∷ ps) → ⊥
    none_holds l is below = nowhere i (p ∷ ps) l enough is below
renewed_at test i (p ∷ ps) (c ∷ more) zero b enough holds within at = by (test i) (ap test {x = i} {y = i + 0} (omega arith) ∙ holds) at
  where
    by : (t : Bool) → t ≡ true → slice_get (if t then c ∷ renew test (i + 1) ps more else p ∷ renew test (i + 1) ps (c ∷ more)) 0 ≡ Some b → IsAmong (c ∷ more) b
    by true e is = (0, is)
    by false e is = absurd (true≢false (sym e))
renewed_at test i (p ∷ ps) (c ∷ more) (suc j) b enough holds within at =
    by (test i) refl at
    (λ few is. renewed_at test (i + 1) ps more j b few there (omega (arith, within)) is)
    (λ few is. renewed_at test (i + 1) ps (c ∷ more) j b few there (omega (arith, within)) is)
  where
    there : test (i + 1 + j) ≡ true
    there = ap test {x = i + 1 + j} {y = i + suc j} (omega arith) ∙ holds

    by : (t : Bool) → test i ≡ t → slice_get (if t then c ∷ renew test (i + 1) ps more else p ∷ renew test (i + 1) ps (c ∷ more)) (suc j) ≡ Some b
        → (renewals test (i + 1) ps ≤ length more → slice_get (renew test (i + 1) ps more) j ≡ Some b → IsAmong more b)
        → (renewals test (i + 1) ps ≤ suc (length more) → slice_get (renew test (i + 1) ps (c ∷ more)) j ≡ Some b → IsAmong (c ∷ more) b)
        → IsAmong (c ∷ more) b
    by true is e new old = later c b more (new (count_less test i ps (length more) true is enough refl) e)
    by false is e new old = old (count_same test i ps (suc (length more)) enough) e

-- No number comes twice.

once_rest : (x : ℕ) (xs : List ℕ) → AreOnce (x ∷ xs) → AreOnce xs
once_rest x xs once i j b at_i at_j = let same : suc i ≡ suc j = once (suc i) (suc j) b at_i at_j in omega (arith, same)

not_again : (x : ℕ) (xs : List ℕ) → AreOnce (x ∷ xs) → IsAmong xs x → ⊥
not_again x xs once r = let same : 0 ≡ suc r.0 = once 0 (suc r.0) x refl r.1 in omega (arith, same)

once_with : (x : ℕ) (xs : List ℕ) → AreOnce xs → (IsAmong xs x → ⊥) → AreOnce (x ∷ xs)
once_with x xs once out zero zero b at_i at_j = refl
once_with x xs once out zero (suc j) b at_i at_j = absurd (out (j, at_j ∙ ap Some (sym (same_Some x b at_i))))
once_with x xs once out (suc i) zero b at_i at_j = absurd (out (i, at_i ∙ ap Some (sym (same_Some x b at_j))))
once_with x xs once out (suc i) (suc j) b at_i at_j = ap suc (once i j b at_i at_j)

pub renewed_once : (test : ℕ → Bool) (i : ℕ) (places more : List ℕ) → AreOnce places → AreOnce more → AreApart places more → AreOnce (renew test i places more)
renewed_once test i [] more own new apart = new
renewed_once test i (p ∷ ps) [] own new apart = own
renewed_once test i (p ∷ ps) (c ∷ more) own new apart =
    by (test i)
    (once_with c (renew test (i + 1) ps more) (renewed_once test (i + 1) ps more (once_rest p ps own) (once_rest c more new) (λ b x y. apart b (later p b ps x) (later c b more y))) (λ r. out_new r (from_either test (i + 1) ps more r.0 c r.1)))
    (once_with p (renew test (i + 1) ps (c ∷ more)) (renewed_once test (i + 1) ps (c ∷ more) (once_rest p ps own) new (λ b x y. apart b (later p b ps x) y)) (λ r. out_old r (from_either test (i + 1) ps (c ∷ more) r.0 p r.1)))
  where
    out_new : IsAmong (renew test (i + 1) ps more) c → IsAmong ps c ⊎ IsAmong more c → ⊥
    out_new r (inl x) = apart c (later p c ps x) (0, refl)
    out_new r (inr y) = not_again c more new y

    out_old : IsAmong (renew test (i + 1) ps (c ∷ more)) p → IsAmong ps p ⊎ IsAmong (c ∷ more) p → ⊥
    out_old r (inl x) = not_again p ps own x
    out_old r (inr y) = apart p (0, refl) y

    by : (t : Bool) → AreOnce (c ∷ renew test (i + 1) ps more) → AreOnce (p ∷ renew test (i + 1) ps (c ∷ more)) → AreOnce (if t then c ∷ renew test (i + 1) ps more else p ∷ renew test (i + 1) ps (c ∷ more))
    by true new old = new
    by false new old = old

-- As many come behind as are left.

pub renewed_length : (test : ℕ → Bool) (i : ℕ) (places more : List ℕ) → renewals test i places ≤ length more → length (renew test i places more) + renewals test i places ≡ length places + length more
renewed_length test i [] more enough = omega arith
renewed_length test i (p ∷ ps) [] enough = omega (arith, enough)
renewed_length test i (p ∷ ps) (c ∷ more) enough =
    by (test i) refl (λ few. renewed_length test (i + 1) ps more few) (λ few. renewed_length test (i + 1) ps (c ∷ more) few)
  where
    by : (t : Bool) → test i ≡ t
        → (renewals test (i + 1) ps ≤ length more → length (renew test (i + 1) ps more) + renewals test (i + 1) ps ≡ length ps + length more)
        → (renewals test (i + 1) ps ≤ suc (length more) → length (renew test (i + 1) ps (c ∷ more)) + renewals test (i + 1) ps ≡ length ps + suc (length more))
        → length (if t then c ∷ renew test (i + 1) ps more else p ∷ renew test (i + 1) ps (c ∷ more)) + ((if t then 1 else 0) + renewals test (i + 1) ps) ≡ suc (length ps) + suc (length more)
    by true is new old = let rest = new (count_less test i ps (length more) true is enough refl) in omega (arith, rest)
    by false is new old = let rest = old (count_same test i ps (suc (length more)) enough) in omega (arith, rest)
