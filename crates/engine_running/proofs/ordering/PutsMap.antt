-- The rows of a transaction are a map from blocks to the bytes that were put.
use Rattle.std.proofs.Common.{◌≡◌, ◌<◌, ◌==◌, ℕ, Bool, true, false, if◌then◌else◌, List, [], ◌∷◌, Option, Some, None, refl, sym, ap, ap₂, ◌∙◌, arith}
use Rattle.std.proofs.lemmas.Bool.Decides.{nat_tests}
use Rattle.std.proofs.lemmas.Bool.{eqb-true, ltb-true, eq-eqb, false≢true, cond-true, cond-false}
use Rattle.layout_journal.specs.Run.{or_else}
use Rattle.engine_running.specs.declared.put.Put.{Put}
use Rattle.engine_running.specs.Rows.{IsRising, with_put, without_put, put_of}
use Rattle.engine_running.specs.Running.{Changes, IsOrdered, Puts, Takes, Frees, bytes_put}
use Rattle.engine_running.proofs.ordering.RowOrder.{rising_tail, rising_head}
use Rattle.engine_running.proofs.ordering.RowSteps.{none_put}

-- two tests that don't both pass may change places
swap_tests : {A : Type 0} (u v : Bool) (x y z : A) → (u ≡ true → v ≡ true → ⊥) → (if u then x else if v then y else z) ≡ (if v then y else if u then x else z)
swap_tests true true x y z apart = absurd (apart refl refl)
swap_tests true false x y z apart = refl
swap_tests false true x y z apart = refl
swap_tests false false x y z apart = refl

-- a test that fails where another one fails decides nothing behind it
drop_test : {A : Type 0} (u v : Bool) (x y z : A) → (v ≡ true → u ≡ true) → (if u then x else z) ≡ (if u then x else if v then y else z)
drop_test true v x y z implied = refl
drop_test false true x y z implied = absurd (false≢true (implied refl))
drop_test false false x y z implied = refl

same_block : (a b c : ℕ) → a ≡ b → (a == c) ≡ true → (b == c) ≡ true
same_block a b c e f = ap (λ n. n == c) (sym e) ∙ f

-- a row with a put has its bytes for its block, and for others what it had
pub put_with : (p : Put) (row : List Put) (b : ℕ) → put_of b (with_put p row) ≡ (if p.block == b then Some p.bytes else put_of b row)
put_with p [] b = refl
put_with p (q ∷ qs) b = grind (arith, nat_tests, swap_tests, ltb-true, drop_test, same_block, put_with p qs b)

-- a row without a block has no bytes for it, and for others what it had
pub put_without : (c : ℕ) (row : List Put) (b : ℕ) → IsRising row → put_of b (without_put c row) ≡ (if c == b then None else put_of b row)
put_without c [] b rising = by (c == b)
  where
    by : (v : Bool) → ◌≡◌ {A = Option (List ℕ)} None (if v then None else None)
    by true = refl
    by false = refl
put_without c (q ∷ qs) b rising = by (q.block == c) refl (c == b) refl (put_without c qs b (rising_tail q qs rising))
  where
    differ : (a b c : ℕ) → a < b → b ≡ c → a ≡ c → ⊥
    differ a b c lt e f = omega (arith, lt, e, f)

    other : (a b c : ℕ) → (a == c) ≡ true → (c == b) ≡ false → (a == b) ≡ false
    other a b c e f = ap (λ n. n == b) (eqb-true a c e) ∙ f

    by : (u : Bool) → (q.block == c) ≡ u → (v : Bool) → (c == b) ≡ v → put_of b (without_put c qs) ≡ (if c == b then None else put_of b qs) → put_of b (without_put c (q ∷ qs)) ≡ (if c == b then None else put_of b (q ∷ qs))
    by true e true f rest =
        ap (put_of b) (cond-true (q.block == c) qs (q ∷ without_put c qs) e)
        ∙ none_put b qs (λ k p is same. differ q.block p.block b (rising_head q qs rising k p is) same (eqb-true q.block c e ∙ eqb-true c b f))
        ∙ sym (cond-true (c == b) None (put_of b (q ∷ qs)) f)
    by true e false f rest =
        ap (put_of b) (cond-true (q.block == c) qs (q ∷ without_put c qs) e)
        ∙ sym (cond-false (c == b) None (put_of b (q ∷ qs)) f ∙ cond-false (q.block == b) (Some q.bytes) (put_of b qs) (other q.block b c e f))
    by false e v f rest =
        ap (put_of b) (cond-false (q.block == c) qs (q ∷ without_put c qs) e)
        ∙ ap (λ (o : Option (List ℕ)). if q.block == b then Some q.bytes else o) rest
        ∙ swap_tests (q.block == b) (c == b) (Some q.bytes) None (put_of b qs) (λ s t. false≢true (sym e ∙ eq-eqb q.block c (eqb-true q.block b s ∙ sym (eqb-true c b t))))

-- one test before both rows, or before what they give together
both : (v : Bool) (x y l p : Option (List ℕ)) → or_else (if v then x else l) (if v then y else p) ≡ (if v then or_else x y else or_else l p)
both true x y l p = refl
both false x y l p = refl

pub put_is_found : (fresh : Bool) (p : Put) (old new : Changes) → IsOrdered old.paid old.laid → Puts fresh p old new → (b : ℕ) → bytes_put new b ≡ (if p.block == b then Some p.bytes else bytes_put old b)
put_is_found true p old new o puts b =
    ap₂ or_else (ap (put_of b) puts.laid ∙ put_with p old.laid b) (ap (put_of b) puts.paid ∙ put_without p.block old.paid b o.paid)
    ∙ both (p.block == b) (Some p.bytes) None (put_of b old.laid) (put_of b old.paid)
put_is_found false p old new o puts b =
    ap₂ or_else (ap (put_of b) puts.laid ∙ put_without p.block old.laid b o.laid) (ap (put_of b) puts.paid ∙ put_with p old.paid b)
    ∙ both (p.block == b) None (Some p.bytes) (put_of b old.laid) (put_of b old.paid)

pub freed_is_gone : (c : ℕ) (old new : Changes) → IsOrdered old.paid old.laid → Frees c old new → (b : ℕ) → bytes_put new b ≡ (if c == b then None else bytes_put old b)
freed_is_gone c old new o frees b =
    ap₂ or_else (ap (put_of b) frees.laid ∙ put_without c old.laid b o.laid) (ap (put_of b) frees.paid ∙ put_without c old.paid b o.paid)
    ∙ both (c == b) None None (put_of b old.laid) (put_of b old.paid)

pub taken_is_as_before : (c : ℕ) (old new : Changes) → Takes c old new → (b : ℕ) → bytes_put new b ≡ bytes_put old b
taken_is_as_before c old new takes b = ap₂ or_else (ap (put_of b) takes.laid) (ap (put_of b) takes.paid)
