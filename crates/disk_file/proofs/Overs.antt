-- Tickets that are over: what a wait and a poll make of them.
use Rattle.std.proofs.Common.{◌≡◌, ⊎_elim, ℕ, ◌+◌, ◌≤◌, ◌==◌, true, not, List, [], ◌∷◌, nat_le, filter, All, sym, subst, ◌∙◌, ap, arith}
use Rattle.std.specs.List.{list_any}
use Rattle.std.proofs.lemmas.Bool.{cases_Bool, cases_eq, false≢true, cond-true, cond-false, eqb-true, or_cases, or_left, or_right, leb-true, le-leb, not_from_true, not_from_false}
use Rattle.std.proofs.lemmas.List.Elements.{All-head, All-tail}
use Rattle.disk_file.specs.Notices.{NoticesState, is_over, StaysOver}

-- one that passes the test is below a bound that all are below
below : (most t : ℕ) (ts : List ℕ) → All (λ u. u ≤ most) ts → list_any (λ u. u == t) ts ≡ true → t ≤ most
below most t [] all e = absurd (false≢true e)
below most t (u ∷ ts) all e = ⊎_elim
    (λ here. let is = eqb-true u t here in let low = All-head (λ v. v ≤ most) u ts all in omega (arith, is, low))
    (λ later. below most t ts (All-tail (λ v. v ≤ most) u ts all) later)
    (or_cases (u == t) _ e)

-- what passes the test and isn't filtered out is still there
still : (t out : ℕ) (ts : List ℕ) → (t ≡ out → ⊥) → list_any (λ u. u == t) ts ≡ true → list_any (λ u. u == t) (filter (λ u. not (u == out)) ts) ≡ true
still t out [] d e = e
still t out (u ∷ ts) d e = ⊎_elim
    (λ gone. ap (λ l. list_any (λ v. v == t) l) (cond-false (not (u == out)) (u ∷ filter (λ v. not (v == out)) ts) (filter (λ v. not (v == out)) ts) (not_from_true (u == out) gone))
    ∙ still t out ts d (⊎_elim (λ here. absurd (d (sym (eqb-true u t here) ∙ eqb-true u out gone))) (λ later. later) (or_cases (u == t) _ e)))
    (λ kept. ap (λ l. list_any (λ v. v == t) l) (cond-true (not (u == out)) (u ∷ filter (λ v. not (v == out)) ts) (filter (λ v. not (v == out)) ts) (not_from_false (u == out) kept))
    ∙ ⊎_elim (λ here. or_left (u == t) _ here) (λ later. or_right (u == t) _ (still t out ts d later)) (or_cases (u == t) _ e))
    (cases_Bool (u == out))

-- all up to a number
pub up_to : (t upto most : ℕ) (ts : List ℕ) → t ≤ upto → is_over t (record { upto = upto; waited = ts; most = most }) ≡ true
up_to t upto most ts low = or_left (nat_le t upto) _ (le-leb t upto low)

-- where none is above the new number, all that were over are so
pub jump_stays : (upto most new more : ℕ) (ts us : List ℕ) → upto ≤ new → most ≤ new → All (λ u. u ≤ most) ts → StaysOver (record { upto = upto; waited = ts; most = most }) (record { upto = new; waited = us; most = more })
jump_stays upto most new more ts us high higher all t over = ⊎_elim
    (λ low. let le = leb-true t upto low in up_to t new more us (omega (arith, le, high)))
    (λ there. let le = below most t ts all there in up_to t new more us (omega (arith, le, higher)))
    (or_cases (nat_le t upto) _ over)

-- and others stay over when it is passed
pub pass_stays : (upto most more : ℕ) (ts : List ℕ) → StaysOver (record { upto = upto; waited = ts; most = most }) (record { upto = upto + 1; waited = filter (λ u. not (u == upto + 1)) ts; most = more })
pass_stays upto most more ts t over = ⊎_elim
    (λ low. let le = leb-true t upto low in or_left (nat_le t (upto + 1)) _ (le-leb t (upto + 1) (omega (arith, le))))
    (λ there. ⊎_elim
    (λ same. or_left (nat_le t (upto + 1)) _ (le-leb t (upto + 1) (omega (arith, same))))
    (λ apart. or_right (nat_le t (upto + 1)) _ (still t (upto + 1) ts apart there))
    (cases_eq t (upto + 1)))
    (or_cases (nat_le t upto) _ over)

-- what isn't filtered out was there
there_before : (t out : ℕ) (ts : List ℕ) → list_any (λ u. u == t) (filter (λ u. not (u == out)) ts) ≡ true → list_any (λ u. u == t) ts ≡ true
there_before t out [] e = e
there_before t out (u ∷ ts) e = ⊎_elim
    (λ gone. or_right (u == t) _ (there_before t out ts (sym (ap (λ l. list_any (λ v. v == t) l) (cond-false (not (u == out)) (u ∷ filter (λ v. not (v == out)) ts) (filter (λ v. not (v == out)) ts) (not_from_true (u == out) gone))) ∙ e)))
    (λ kept. ⊎_elim (λ here. or_left (u == t) _ here) (λ later. or_right (u == t) _ (there_before t out ts later))
    (or_cases (u == t) _ (sym (ap (λ l. list_any (λ v. v == t) l) (cond-true (not (u == out)) (u ∷ filter (λ v. not (v == out)) ts) (filter (λ v. not (v == out)) ts) (not_from_false (u == out) kept))) ∙ e)))
    (cases_Bool (u == out))

-- where the next ticket was waited for, passing it makes none over that wasn't
pub pass_same : (upto most more : ℕ) (ts : List ℕ) → list_any (λ u. u == upto + 1) ts ≡ true → StaysOver (record { upto = upto + 1; waited = filter (λ u. not (u == upto + 1)) ts; most = more }) (record { upto = upto; waited = ts; most = most })
pass_same upto most more ts was t over = ⊎_elim
    (λ low. ⊎_elim
    (λ same. or_right (nat_le t upto) _ (subst (λ n. list_any (λ u. u == n) ts ≡ true) (sym same) was))
    (λ apart. let le = leb-true t (upto + 1) low in or_left (nat_le t upto) _ (le-leb t upto (lower le apart)))
    (cases_eq t (upto + 1)))
    (λ there. or_right (nat_le t upto) _ (there_before t (upto + 1) ts there))
    (or_cases (nat_le t (upto + 1)) _ over)
  where
    lower : t ≤ upto + 1 → (t ≡ upto + 1 → ⊥) → t ≤ upto
    lower le apart = grind arith

-- all up to the number are over
pub low_over : (n : NoticesState) (t : ℕ) → t ≤ n.upto → is_over t n ≡ true
low_over n t low = or_left (nat_le t n.upto) _ (le-leb t n.upto low)
