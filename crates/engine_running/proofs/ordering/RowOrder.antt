-- Rows stay in order, with a put more or less.
use Rattle.std.proofs.Common.{◌≡◌, ◌≢◌, ◌⊎◌, ⊎_elim, inl, inr, ℕ, zero, suc, ◌<◌, ◌≤◌, ◌==◌, nat_lt, Bool, true, false, if◌then◌else◌, List, [], ◌∷◌, slice_get, Some, refl, sym, ◌∙◌, ap, subst, arith}
use Rattle.std.proofs.lemmas.Bool.{eqb-true, ltb-true, ltb-false, eq-eqb, false≢true, cond-true, cond-false}
use Rattle.std.proofs.lemmas.Option.{same_Some, none-some}
use Rattle.engine_running.specs.declared.put.Put.{Put}
use Rattle.engine_running.specs.Rows.{IsRising, with_put, without_put, LacksBlock}

-- each member of a row with one put more is that put, or one of the row
pub in_with : (p : Put) (row : List Put) (k : ℕ) (q : Put) → slice_get (with_put p row) k ≡ Some q → (q ≡ p) ⊎ ((i : ℕ) × (slice_get row i ≡ Some q))
in_with p [] zero q is = inl (sym (same_Some _ _ is))
in_with p [] (suc k) q is = absurd (none-some q is)
in_with p (r ∷ rs) k q is = by (nat_lt r.block p.block) refl (r.block == p.block) refl (in_with p rs)
  where
    later : (k : ℕ) → ((k : ℕ) (q : Put) → slice_get (with_put p rs) k ≡ Some q → (q ≡ p) ⊎ ((i : ℕ) × (slice_get rs i ≡ Some q))) → slice_get (r ∷ with_put p rs) k ≡ Some q → (q ≡ p) ⊎ ((i : ℕ) × (slice_get (r ∷ rs) i ≡ Some q))
    later zero rest e = inr (0, e)
    later (suc k) rest e = ⊎_elim (λ own. inl own) (λ old. inr (suc old.0, old.1)) (rest k q e)

    same : (k : ℕ) → slice_get (p ∷ rs) k ≡ Some q → (q ≡ p) ⊎ ((i : ℕ) × (slice_get (r ∷ rs) i ≡ Some q))
    same zero e = inl (sym (same_Some _ _ e))
    same (suc k) e = inr (suc k, e)

    front : (k : ℕ) → slice_get (p ∷ r ∷ rs) k ≡ Some q → (q ≡ p) ⊎ ((i : ℕ) × (slice_get (r ∷ rs) i ≡ Some q))
    front zero e = inl (sym (same_Some _ _ e))
    front (suc k) e = inr (k, e)

    by : (u : Bool) → nat_lt r.block p.block ≡ u → (v : Bool) → (r.block == p.block) ≡ v → ((k : ℕ) (q : Put) → slice_get (with_put p rs) k ≡ Some q → (q ≡ p) ⊎ ((i : ℕ) × (slice_get rs i ≡ Some q))) → (q ≡ p) ⊎ ((i : ℕ) × (slice_get (r ∷ rs) i ≡ Some q))
    by true e v f rest = later k rest (ap (λ (l : List Put). slice_get l k) (sym (cond-true (nat_lt r.block p.block) (r ∷ with_put p rs) (if r.block == p.block then p ∷ rs else p ∷ r ∷ rs) e)) ∙ is)
    by false e true f rest = same k (ap (λ (l : List Put). slice_get l k) (sym (cond-false (nat_lt r.block p.block) (r ∷ with_put p rs) (if r.block == p.block then p ∷ rs else p ∷ r ∷ rs) e ∙ cond-true (r.block == p.block) (p ∷ rs) (p ∷ r ∷ rs) f)) ∙ is)
    by false e false f rest = front k (ap (λ (l : List Put). slice_get l k) (sym (cond-false (nat_lt r.block p.block) (r ∷ with_put p rs) (if r.block == p.block then p ∷ rs else p ∷ r ∷ rs) e ∙ cond-false (r.block == p.block) (p ∷ rs) (p ∷ r ∷ rs) f)) ∙ is)

-- and of a row without a block, one of the row
pub in_without : (b : ℕ) (row : List Put) (k : ℕ) (q : Put) → slice_get (without_put b row) k ≡ Some q → (i : ℕ) × (k ≤ i) × (slice_get row i ≡ Some q)
in_without b [] k q is = cc
in_without b (r ∷ rs) k q is = by (r.block == b) refl (in_without b rs)
  where
    later : (k : ℕ) → ((k : ℕ) (q : Put) → slice_get (without_put b rs) k ≡ Some q → (i : ℕ) × (k ≤ i) × (slice_get rs i ≡ Some q)) → slice_get (r ∷ without_put b rs) k ≡ Some q → (i : ℕ) × (k ≤ i) × (slice_get (r ∷ rs) i ≡ Some q)
    later zero rest e = (0, omega arith, e)
    later (suc k) rest e = let old = rest k q e in (suc old.0, omega (arith, old.1), old.2)

    by : (v : Bool) → (r.block == b) ≡ v → ((k : ℕ) (q : Put) → slice_get (without_put b rs) k ≡ Some q → (i : ℕ) × (k ≤ i) × (slice_get rs i ≡ Some q)) → (i : ℕ) × (k ≤ i) × (slice_get (r ∷ rs) i ≡ Some q)
    by true e rest = (suc k, omega arith, ap (λ (l : List Put). slice_get l k) (sym (cond-true (r.block == b) rs (r ∷ without_put b rs) e)) ∙ is)
    by false e rest = later k rest (ap (λ (l : List Put). slice_get l k) (sym (cond-false (r.block == b) rs (r ∷ without_put b rs) e)) ∙ is)

-- a row is in order where its first put is below all others, and these are in order
rising_cons : (r : Put) (rs : List Put) → ((k : ℕ) (q : Put) → slice_get rs k ≡ Some q → r.block < q.block) → IsRising rs → IsRising (r ∷ rs)
rising_cons r rs above rising i zero p q lt is at = absurd (omega arith)
rising_cons r rs above rising zero (suc k) p q lt is at = subst (λ (s : Put). s.block < q.block) (same_Some _ _ is) (above k q at)
rising_cons r rs above rising (suc i) (suc k) p q lt is at = rising i k p q (omega arith) is at

pub rising_tail : (r : Put) (rs : List Put) → IsRising (r ∷ rs) → IsRising rs
rising_tail r rs rising i k p q lt is at = rising (suc i) (suc k) p q (omega arith) is at

pub rising_head : (r : Put) (rs : List Put) → IsRising (r ∷ rs) → (k : ℕ) (q : Put) → slice_get rs k ≡ Some q → r.block < q.block
rising_head r rs rising k q is = rising 0 (suc k) r q (omega arith) refl is

pub rising_with : (p : Put) (row : List Put) → IsRising row → IsRising (with_put p row)
rising_with p [] rising = rising_cons p [] (λ k q is. absurd (none-some q is)) rising
rising_with p (r ∷ rs) rising = by (nat_lt r.block p.block) refl (r.block == p.block) refl (rising_with p rs (rising_tail r rs rising))
  where
    less : (a b c : ℕ) → a < b → c ≡ b → a < c
    less a b c lt e = omega (arith, lt, e)

    by : (u : Bool) → nat_lt r.block p.block ≡ u → (v : Bool) → (r.block == p.block) ≡ v → IsRising (with_put p rs) → IsRising (with_put p (r ∷ rs))
    by true e v f rest = subst IsRising (sym (cond-true (nat_lt r.block p.block) (r ∷ with_put p rs) (if r.block == p.block then p ∷ rs else p ∷ r ∷ rs) e))
        (rising_cons r (with_put p rs) (λ k q is. ⊎_elim (λ own. less r.block p.block q.block (ltb-true _ _ e) (ap (λ (s : Put). s.block) own)) (λ old. rising_head r rs rising old.0 q old.1) (in_with p rs k q is)) rest)
    by false e true f rest = subst IsRising (sym (cond-false (nat_lt r.block p.block) (r ∷ with_put p rs) (if r.block == p.block then p ∷ rs else p ∷ r ∷ rs) e ∙ cond-true (r.block == p.block) (p ∷ rs) (p ∷ r ∷ rs) f))
        (rising_cons p rs (λ k q is. omega (arith, eqb-true r.block p.block f, rising_head r rs rising k q is)) (rising_tail r rs rising))
    by false e false f rest = subst IsRising (sym (cond-false (nat_lt r.block p.block) (r ∷ with_put p rs) (if r.block == p.block then p ∷ rs else p ∷ r ∷ rs) e ∙ cond-false (r.block == p.block) (p ∷ rs) (p ∷ r ∷ rs) f))
        (rising_cons p (r ∷ rs) (first (ltb-false _ _ e)) rising)
      where
        apart : r.block ≢ p.block
        apart same = false≢true (sym f ∙ eq-eqb r.block p.block same)

        strict : (a b : ℕ) → b ≤ a → a ≢ b → b < a
        strict a b le ne = omega (arith, le, ne)

        first : p.block ≤ r.block → (k : ℕ) (q : Put) → slice_get (r ∷ rs) k ≡ Some q → p.block < q.block
        first le zero q is = subst (λ (s : Put). p.block < s.block) (same_Some _ _ is) (strict r.block p.block le apart)
        first le (suc k) q is = omega (arith, le, rising_head r rs rising k q is)

pub rising_without : (b : ℕ) (row : List Put) → IsRising row → IsRising (without_put b row)
rising_without b [] rising = rising
rising_without b (r ∷ rs) rising = by (r.block == b) refl (rising_without b rs (rising_tail r rs rising))
  where
    by : (v : Bool) → (r.block == b) ≡ v → IsRising (without_put b rs) → IsRising (without_put b (r ∷ rs))
    by true e rest = subst IsRising (sym (cond-true (r.block == b) rs (r ∷ without_put b rs) e)) (rising_tail r rs rising)
    by false e rest = subst IsRising (sym (cond-false (r.block == b) rs (r ∷ without_put b rs) e))
        (rising_cons r (without_put b rs) (λ k q is. let old = in_without b rs k q is in rising_head r rs rising old.0 q old.2) rest)

-- a row without a block lacks it
pub lacks_without : (b : ℕ) (row : List Put) → IsRising row → LacksBlock b (without_put b row)
lacks_without b [] rising = λ k p is. absurd (none-some p is)
lacks_without b (r ∷ rs) rising = by (r.block == b) refl (lacks_without b rs (rising_tail r rs rising))
  where
    above : (a c b : ℕ) → a ≡ b → a < c → c ≢ b
    above a c b e lt same = omega (arith, e, lt, same)

    later : (r.block == b) ≡ false → LacksBlock b (without_put b rs) → LacksBlock b (r ∷ without_put b rs)
    later e rest zero p at same = false≢true (sym e ∙ eq-eqb r.block b (ap (λ (s : Put). s.block) (same_Some _ _ at) ∙ same))
    later e rest (suc k) p at same = rest k p at same

    by : (v : Bool) → (r.block == b) ≡ v → LacksBlock b (without_put b rs) → LacksBlock b (without_put b (r ∷ rs))
    by true e rest = subst (LacksBlock b) (sym (cond-true (r.block == b) rs (r ∷ without_put b rs) e)) (λ k p is. above r.block p.block b (eqb-true r.block b e) (rising_head r rs rising k p is))
    by false e rest = subst (LacksBlock b) (sym (cond-false (r.block == b) rs (r ∷ without_put b rs) e)) (later e rest)

-- what two rows have in common stays apart as a block goes from one to the other
pub apart_over : (p : Put) (into other : List Put) → IsRising other → ((k : ℕ) (q : Put) → slice_get into k ≡ Some q → LacksBlock q.block other) → (k : ℕ) (q : Put) → slice_get (with_put p into) k ≡ Some q → LacksBlock q.block (without_put p.block other)
apart_over p into other rising apart k q is i r at = ⊎_elim (λ own. subst (λ (s : Put). r.block ≢ s.block) (sym own) (lacks_without p.block other rising i r at)) (λ old. let from = in_without p.block other i r at in apart old.0 q old.1 from.0 r from.2) (in_with p into k q is)

-- and the other way round
pub apart_back : (into other : List Put) → ((k : ℕ) (q : Put) → slice_get into k ≡ Some q → LacksBlock q.block other) → (k : ℕ) (q : Put) → slice_get other k ≡ Some q → LacksBlock q.block into
apart_back into other apart k q is i r at same = apart i r at k q is (sym same)

-- rows that are apart stay so where each loses a block
pub apart_without : (b : ℕ) (xs ys : List Put) → ((k : ℕ) (q : Put) → slice_get xs k ≡ Some q → LacksBlock q.block ys) → (k : ℕ) (q : Put) → slice_get (without_put b xs) k ≡ Some q → LacksBlock q.block (without_put b ys)
apart_without b xs ys apart k q is i r at = let from = in_without b xs k q is in let old = in_without b ys i r at in apart from.0 q from.2 old.0 r old.2
