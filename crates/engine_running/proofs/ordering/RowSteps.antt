-- A row with one put more, and with one less, by the place that a search finds.
use Rattle.std.proofs.Common.{◌≡◌, ◌≢◌, ◌⊎◌, ⊎_elim, inl, inr, ℕ, zero, suc, ◌<◌, ◌≤◌, ◌==◌, nat_lt, Bool, true, false, IsTrue, if◌then◌else◌, List, [], ◌∷◌, length, slice_get, slice_set, insert, remove, Some, None, refl, sym, ◌∙◌, ap, subst, arith}
use Rattle.std.proofs.lemmas.Bool.{eqb-true, cases_eq, cases_lt, lt-ltb, le-ltb, eq-eqb, false≢true, cond-true, cond-false, ne_eqb}
use Rattle.std.proofs.lemmas.Option.{same_Some, slice_get_within}
use Rattle.engine_running.specs.declared.put.Put.{Put}
use Rattle.engine_running.specs.Rows.{IsRising, with_put, without_put, put_of, LacksBlock}

-- all before this place are of lower blocks
abbrev Below : List Put → ℕ → ℕ → Type 0
Below row at b = (k : ℕ) (p : Put) → slice_get row k ≡ Some p → k < at → p.block < b

abbrev From : List Put → ℕ → ℕ → Type 0
From row at b = (k : ℕ) (p : Put) → slice_get row k ≡ Some p → at ≤ k → b ≤ p.block

eqb_refl : (n : ℕ) → (n == n) ≡ true
eqb_refl n = eq-eqb n n refl

-- a put of a block that the row lacks
pub inserted : (p : Put) (row : List Put) (at : ℕ) → at ≤ length row → Below row at p.block → ((k : ℕ) (q : Put) → slice_get row k ≡ Some q → at ≤ k → p.block < q.block) → insert row at p ≡ with_put p row
inserted p [] zero le low high = refl
inserted p [] (suc at) le low high = absurd (omega arith)
inserted p (q ∷ qs) zero le low high =
    sym (cond-false (nat_lt q.block p.block) (q ∷ with_put p qs) (if q.block == p.block then p ∷ qs else p ∷ q ∷ qs) (le-ltb _ _ (omega (arith, high 0 q refl (omega arith))))
    ∙ cond-false (q.block == p.block) (p ∷ qs) (p ∷ q ∷ qs) (ne_eqb q.block p.block (λ e. less q.block p.block (high 0 q refl (omega arith)) e)))
  where
    less : (a b : ℕ) → b < a → a ≡ b → ⊥
    less a b lt e = omega arith
inserted p (q ∷ qs) (suc at) le low high =
    ap (λ (l : List Put). q ∷ l) (inserted p qs at (omega arith) (λ k r is lt. low (suc k) r is (omega arith)) (λ k r is le. high (suc k) r is (omega arith)))
    ∙ sym (cond-true (nat_lt q.block p.block) (q ∷ with_put p qs) (if q.block == p.block then p ∷ qs else p ∷ q ∷ qs) (lt-ltb _ _ (low 0 q refl (omega arith))))

-- a put of a block that the row has
pub replaced : (p : Put) (row : List Put) (at : ℕ) → at < length row → Below row at p.block → ((q : Put) → slice_get row at ≡ Some q → q.block ≡ p.block) → slice_set row at p ≡ with_put p row
replaced p [] at lt low here = absurd (omega arith)
replaced p (q ∷ qs) zero lt low here =
    sym (cond-false (nat_lt q.block p.block) (q ∷ with_put p qs) (if q.block == p.block then p ∷ qs else p ∷ q ∷ qs) (le-ltb _ _ (omega (arith, here q refl)))
    ∙ cond-true (q.block == p.block) (p ∷ qs) (p ∷ q ∷ qs) (ap (λ n. n == p.block) (here q refl) ∙ eqb_refl p.block))
replaced p (q ∷ qs) (suc at) lt low here =
    ap (λ (l : List Put). q ∷ l) (replaced p qs at (omega arith) (λ k r is lt. low (suc k) r is (omega arith)) here)
    ∙ sym (cond-true (nat_lt q.block p.block) (q ∷ with_put p qs) (if q.block == p.block then p ∷ qs else p ∷ q ∷ qs) (lt-ltb _ _ (low 0 q refl (omega arith))))

-- the row without a block
pub removed : (b : ℕ) (row : List Put) (at : ℕ) → at < length row → Below row at b → ((q : Put) → slice_get row at ≡ Some q → q.block ≡ b) → remove row at ≡ without_put b row
removed b [] at lt low here = absurd (omega arith)
removed b (q ∷ qs) zero lt low here = sym (cond-true (q.block == b) qs (q ∷ without_put b qs) (ap (λ n. n == b) (here q refl) ∙ eqb_refl b))
removed b (q ∷ qs) (suc at) lt low here =
    ap (λ (l : List Put). q ∷ l) (removed b qs at (omega arith) (λ k r is lt. low (suc k) r is (omega arith)) here)
    ∙ sym (cond-false (q.block == b) qs (q ∷ without_put b qs) (ne_eqb q.block b (λ e. less q.block b (low 0 q refl (omega arith)) e)))
  where
    less : (a b : ℕ) → a < b → a ≡ b → ⊥
    less a b lt e = omega arith

pub lacking : (b : ℕ) (row : List Put) → LacksBlock b row → row ≡ without_put b row
lacking b [] lacks = refl
lacking b (q ∷ qs) lacks = ap (λ (l : List Put). q ∷ l) (lacking b qs (λ k r is. lacks (suc k) r is)) ∙ sym (cond-false (q.block == b) qs (q ∷ without_put b qs) (ne_eqb q.block b (lacks 0 q refl)))

-- no put of the row is of this block, where the one at the search's place isn't
pub lacks_at : (b : ℕ) (row : List Put) (at : ℕ) → IsRising row → Below row at b → From row at b → ((q : Put) → slice_get row at ≡ Some q → q.block ≢ b) → LacksBlock b row
lacks_at b row at rising low from other k p is e = ⊎_elim (λ lt. less p.block b (low k p is lt) e) (λ le. ⊎_elim (λ same. other p (ap (λ n. slice_get row n) (sym same) ∙ is) e) past (split le)) (cases_lt k at)
  where
    less : (a b : ℕ) → a < b → a ≡ b → ⊥
    less a b lt e = omega arith

    split : at ≤ k → (k ≡ at) ⊎ (at < k)
    split le = ⊎_elim (λ e. inl e) (λ ne. inr (omega (arith, le, ne))) (cases_eq k at)

    item : (xs : List Put) (i : ℕ) → i < length xs → (r : Put) × (slice_get xs i ≡ Some r)
    item [] i lt = absurd (omega arith)
    item (x ∷ xs) zero lt = (x, refl)
    item (x ∷ xs) (suc i) lt = item xs i (omega arith)

    past : at < k → ⊥
    past lt =
        let r = item row at (omega (arith, lt, slice_get_within row k p is)) in
        omega (arith, e, from at r.0 r.1 (omega arith), rising at k r.0 p lt r.1 is)

-- no bytes were put for a block that the row lacks
pub none_put : (b : ℕ) (row : List Put) → LacksBlock b row → put_of b row ≡ None
none_put b [] lacks = refl
none_put b (q ∷ row) lacks = cond-false (q.block == b) (Some q.bytes) (put_of b row) (by (q.block == b) refl) ∙ none_put b row (λ k p is. lacks (suc k) p is)
  where
    by : (v : Bool) → (q.block == b) ≡ v → v ≡ false
    by true e = absurd (lacks 0 q refl (eqb-true q.block b e))
    by false e = refl

-- the bytes of a block
pub found : (b : ℕ) (row : List Put) (at : ℕ) (p : Put) → slice_get row at ≡ Some p → p.block ≡ b → Below row at b → put_of b row ≡ Some p.bytes
found b [] at p is e low = cc
found b (q ∷ qs) zero p is e low = cond-true (q.block == b) (Some q.bytes) (put_of b qs) (ap (λ n. n == b) (ap (λ (r : Put). r.block) (same_Some _ _ is) ∙ e) ∙ eqb_refl b) ∙ ap (λ (r : Put). Some r.bytes) (same_Some _ _ is)
found b (q ∷ qs) (suc at) p is e low = cond-false (q.block == b) (Some q.bytes) (put_of b qs) (ne_eqb q.block b (λ e. less q.block b (low 0 q refl (omega arith)) e)) ∙ found b qs at p is e (λ k r at_r lt. low (suc k) r at_r (omega arith))
  where
    less : (a b : ℕ) → a < b → a ≡ b → ⊥
    less a b lt e = omega arith

-- What a search found in slices of a row: its place, and whether the block is there.
pub record Searched (row xs ys : List Put) (at b : ℕ) (is_there : Bool) : Type 0 where
  pub first : xs ≡ row
  pub second : ys ≡ row
  pub rising : IsRising row
  pub bound : at ≤ length xs
  pub below : (k : ℕ) (p : Put) → slice_get xs k ≡ Some p → k < at → p.block < b
  pub above : (k : ℕ) (p : Put) → slice_get xs k ≡ Some p → at ≤ k → b ≤ p.block
  pub there : IsTrue is_there → (at < length ys) × ((p : Put) → slice_get ys at ≡ Some p → p.block ≡ b)
  pub other : (p : Put) → slice_get ys at ≡ Some p → p.block ≡ b → IsTrue is_there

module _ (row xs ys : List Put) (at b : ℕ) (is_there : Bool) (s : Searched row xs ys at b is_there) where
  low : Below row at b
  low = subst (λ (l : List Put). Below l at b) s.first s.below

  from : From row at b
  from = subst (λ (l : List Put). From l at b) s.first s.above

  here : IsTrue is_there → (at < length row) × ((p : Put) → slice_get row at ≡ Some p → p.block ≡ b)
  here t = subst (λ (l : List Put). (at < length l) × ((p : Put) → slice_get l at ≡ Some p → p.block ≡ b)) s.second (s.there t)

  lacks : is_there ≡ false → LacksBlock b row
  lacks e = lacks_at b row at s.rising low from (λ p is same. false≢true (sym e ∙ s.other p (ap (λ (l : List Put). slice_get l at) s.second ∙ is) same))

  pub put_there : (p : Put) → p.block ≡ b → is_there ≡ true → slice_set row at p ≡ with_put p row
  put_there p e t = replaced p row at (here t).0 (subst (λ n. Below row at n) (sym e) low) (λ q is. (here t).1 q is ∙ sym e)

  pub put_new : (p : Put) → p.block ≡ b → is_there ≡ false → insert row at p ≡ with_put p row
  put_new p e f = inserted p row at (omega (arith, s.bound, ap (λ (l : List Put). length l) s.first)) (subst (λ n. Below row at n) (sym e) low)
      (λ k q is le. above p.block q.block b e (from k q is le) (lacks f k q is))
    where
      above : (a c b : ℕ) → a ≡ b → b ≤ c → c ≢ b → a < c
      above a c b e le ne = omega (arith, e, le, ne)

  pub taken_out : is_there ≡ true → remove row at ≡ without_put b row
  taken_out t = removed b row at (here t).0 low (here t).1

  pub none_there : is_there ≡ false → row ≡ without_put b row
  none_there f = lacking b row (lacks f)
