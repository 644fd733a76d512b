-- Rows of puts as maps, and how long they are.
use Rattle.std.proofs.Common.{◌≡◌, ◌≢◌, ℕ, suc, ◌<◌, ◌≤◌, ◌==◌, true, cond, List, [], ◌∷◌, length, slice_get, Some, None, is_some, refl, sym, ap, ◌∙◌, arith, inl, inr}
use Rattle.std.proofs.lemmas.Bool.{cases_Bool, cond-false, eqb-true, false≢true, ne_eqb}
use Rattle.std.proofs.lemmas.Bool.Decides.{nat_tests}
use Rattle.engine_running.specs.declared.put.Put.{Put}
use Rattle.engine_running.specs.Rows.{IsRising, with_put, without_put, put_of, LacksBlock}
use Rattle.engine_running.specs.Running.{IsOrdered}
use Rattle.engine_books.specs.Books.{has_put}

pub rising_tail : (q : Put) (qs : List Put) → IsRising (q ∷ qs) → IsRising qs
rising_tail q qs rising i k a b lt p r = rising (suc i) (suc k) a b (omega (arith, lt)) p r

pub rising_head : (q : Put) (qs : List Put) → IsRising (q ∷ qs) → (k : ℕ) (p : Put) → slice_get qs k ≡ Some p → q.block < p.block
rising_head q qs rising k p is = rising 0 (suc k) q p (omega arith) refl is

-- a row that lacks a block has no bytes for it
pub none_put : (b : ℕ) (row : List Put) → LacksBlock b row → put_of b row ≡ None
none_put b [] lacks = refl
none_put b (q ∷ qs) lacks = cond-false (q.block == b) (Some q.bytes) (put_of b qs) (ne_eqb q.block b (lacks 0 q refl)) ∙ none_put b qs (λ k p is. lacks (suc k) p is)

-- a row that has a put of a block has it at a place
pub has_at : (b : ℕ) (row : List Put) → has_put b row ≡ true → (k : ℕ) × (p : Put) × (slice_get row k ≡ Some p) × (p.block ≡ b)
has_at b [] is = absurd (false≢true is)
has_at b (q ∷ qs) is = elim (cases_Bool (q.block == b)) [
  | inl e ↦ (0, q, refl, eqb-true q.block b e)
  | inr f ↦ (let r = has_at b qs (sym (ap is_some (cond-false (q.block == b) (Some q.bytes) (put_of b qs) f)) ∙ is) in (suc r.0, r.1, r.2, r.3))
]

-- a row with a put has its bytes for its block, and for others what it had
pub put_with : (p : Put) (row : List Put) (b : ℕ) → put_of b (with_put p row) ≡ cond (p.block == b) (Some p.bytes) (put_of b row)
put_with p [] b = refl
put_with p (q ∷ qs) b = grind (arith, nat_tests, put_with p qs b)

-- a row without a block has no bytes for it, and for others what it had
pub put_without : (c : ℕ) (row : List Put) (b : ℕ) → IsRising row → put_of b (without_put c row) ≡ cond (c == b) None (put_of b row)
put_without c [] b rising = grind arith
put_without c (q ∷ qs) b rising = grind (arith, nat_tests, put_without c qs b (rising_tail q qs rising), λ (e : q.block ≡ b). none_put b qs (λ k p is same. omega (arith, rising_head q qs rising k p is, same, e)))

-- a put in place of an older one makes the row no longer
pub as_long : (p : Put) (row : List Put) → IsRising row → has_put p.block row ≡ true → length (with_put p row) ≡ length row
as_long p [] rising is = absurd (false≢true is)
as_long p (q ∷ qs) rising is = grind (arith, nat_tests, is, as_long p qs (rising_tail q qs rising), λ (lt : p.block < q.block). none_put p.block qs (λ k r at e. omega (arith, rising_head q qs rising k r at, lt, e)))

pub no_longer : (b : ℕ) (row : List Put) → length (without_put b row) ≤ length row
no_longer b [] = omega arith
no_longer b (q ∷ qs) = grind (arith, no_longer b qs)

-- no block is in both rows
pub not_in_both : (paid laid : List Put) (b : ℕ) → IsOrdered paid laid → has_put b laid ≡ true → put_of b paid ≡ None
not_in_both paid laid b o is = let r = has_at b laid is in none_put b paid (λ k q at e. o.apart r.0 r.1 r.2 k q at (e ∙ sym r.3))
