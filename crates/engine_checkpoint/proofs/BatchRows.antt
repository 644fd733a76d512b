-- A row of checkpoint writes, ascending: what is between two of them, and behind the last, isn't in it.
use Rattle.std.proofs.Common.{◌≡◌, ◌≢◌, ⊎_elim, ℕ, zero, suc, ◌+◌, ◌<◌, ◌≤◌, ◌==◌, Bool, true, false, List, [], ◌∷◌, length, take, map, slice_get, Some, None, Result, Ok, Err, IsErr, refl, sym, ◌∙◌, ap, subst, arith}
use Rattle.std.proofs.lemmas.Bool.Decides.{nat_tests}
use Rattle.std.proofs.lemmas.Bool.{cases_lt, eqb-true, eq-eqb, false≢true, cond-true, cond-false}
use Rattle.std.proofs.lemmas.Option.{same_Some, none-some, slice_get_within}
use Rattle.engine_running.specs.declared.put.Put.{Put}
use Rattle.engine_running.specs.Record.{AreBelow}
use Rattle.engine_running.specs.Rows.{IsRising, put_of}
use Rattle.crash_argument.specs.Writes.{AddsFront, AddsAll}
use Rattle.engine_running.specs.Writes.{fresh_write}
use Rattle.disk_contract.specs.declared.event.Event.{Event}
use Rattle.engine_checkpoint.proofs.Lists.{below_none}
use Rattle.engine_checkpoint.specs.HomeState.{sent_behind}

-- an error adds a front of the writes
pub on_err_adds : {A E : Type 0} (ws : List (ℕ × List ℕ)) (r : Result A E) (before now : List ℕ) (old new : List Event) → IsErr r → AddsFront ws old new → AddsAll ws r before now old new
on_err_adds ws (Ok a) before now old new e front = absurd (false≢true e)
on_err_adds ws (Err e2) before now old new e front = front

-- the write of a place of the row
pub row_get : (row : List Put) (k : ℕ) (q : Put) → slice_get row k ≡ Some q → slice_get (map fresh_write row) k ≡ Some (q.block, q.bytes)
row_get [] k q is = absurd (none-some q is)
row_get (r ∷ row) zero q is = ap (λ (x : Put). Some (x.block, x.bytes)) (same_Some r q is)
row_get (r ∷ row) (suc k) q is = row_get row k q is

there : {A : Type 0} (xs : List A) (k : ℕ) → k < length xs → (x : A) × (slice_get xs k ≡ Some x)
there [] k lt = absurd (below_none k lt)
there (x ∷ xs) zero lt = (x, refl)
there (x ∷ xs) (suc k) lt = there xs k (omega (arith, lt))

sent_suc : (n : ℕ) (row : List Put) (k : ℕ) (q : Put) → slice_get row k ≡ Some q → sent_behind n (take (suc k) row) ≡ q.block + 1
sent_suc n [] k q is = absurd (none-some q is)
sent_suc n (r ∷ row) zero q is = ap (λ (x : Put). x.block + 1) (same_Some _ _ is)
sent_suc n (r ∷ row) (suc k) q is = sent_suc (r.block + 1) row k q is

pub sent_push : (row : List Put) (k : ℕ) (q : Put) → slice_get row k ≡ Some q → sent_behind 0 (take (k + 1) row) ≡ q.block + 1
sent_push row k q is = grind (arith, nat_tests, sent_suc)

-- what is written so far lies below
pub sent_low : (row : List Put) → IsRising row → (k : ℕ) (q : Put) → slice_get row k ≡ Some q → sent_behind 0 (take k row) ≤ q.block
sent_low row rising zero q is = omega arith
sent_low row rising (suc j) q is = let r = there row j (omega (arith, slice_get_within row (suc j) q is)) in omega (arith, sent_suc 0 row j r.0 r.1, rising j (suc j) r.0 q (omega arith) r.1 is)

sent_high : (row : List Put) → IsRising row → (i k : ℕ) (p : Put) → i < k → k ≤ length row → slice_get row i ≡ Some p → p.block + 1 ≤ sent_behind 0 (take k row)
sent_high row rising i zero p lt le is = omega (arith, lt)
sent_high row rising i (suc j) p lt le is = let r = there row j (omega (arith, le)) in ⊎_elim
    (λ less. omega (arith, sent_suc 0 row j r.0 r.1, rising i j p r.0 less is r.1))
    (λ not_less. omega (arith, sent_suc 0 row j r.0 r.1, ap (λ (x : Put). x.block) (same_Some p r.0 (sym is ∙ ap (slice_get row) (same i j lt not_less) ∙ r.1)))) (cases_lt i j)
  where
    same : (i j : ℕ) → i < suc j → j ≤ i → i ≡ j
    same i j lt le = omega (arith, lt, le)

pub sent_below : (n : ℕ) (row : List Put) → AreBelow n row → (k : ℕ) → k ≤ length row → sent_behind 0 (take k row) ≤ n
sent_below n row below zero le = omega arith
sent_below n row below (suc j) le = let r = there row j (omega (arith, le)) in omega (arith, sent_suc 0 row j r.0 r.1, below j r.0 r.1)

lacks_none : (c : ℕ) (row : List Put) → ((i : ℕ) (p : Put) → slice_get row i ≡ Some p → p.block ≢ c) → put_of c row ≡ None
lacks_none c [] lacks = refl
lacks_none c (q ∷ row) lacks = by (lacks_none c row (λ i p is. lacks (suc i) p is)) (q.block == c) refl
  where
    by : put_of c row ≡ None → (v : Bool) → (q.block == c) ≡ v → put_of c (q ∷ row) ≡ None
    by rest true own = absurd (lacks 0 q refl (eqb-true q.block c own))
    by rest false other = cond-false (q.block == c) (Some q.bytes) (put_of c row) other ∙ rest

-- what lies behind the first k and below the others isn't in the row
pub none_between : (row : List Put) → IsRising row → (k c : ℕ) → k ≤ length row → sent_behind 0 (take k row) ≤ c → ((i : ℕ) (p : Put) → k ≤ i → slice_get row i ≡ Some p → c < p.block) → put_of c row ≡ None
none_between row rising k c le from above = grind (arith, nat_tests, lacks_none, sent_high)

pub skipped : (row : List Put) → IsRising row → (k : ℕ) (q : Put) → slice_get row k ≡ Some q → (c : ℕ) → sent_behind 0 (take k row) ≤ c → c < q.block → put_of c row ≡ None
skipped row rising k q is c from upto = none_between row rising k c (omega (arith, slice_get_within row k q is)) from (λ i p le at. ⊎_elim
    (λ less. omega (arith, upto, rising k i q p less is at))
    (λ not_less. omega (arith, upto, ap (λ (x : Put). x.block) (same_Some q p (sym is ∙ ap (slice_get row) (same k i le not_less) ∙ at)))) (cases_lt k i))
  where
    same : (k i : ℕ) → k ≤ i → i ≤ k → k ≡ i
    same k i le ge = omega (arith, le, ge)

pub put_at : (row : List Put) → IsRising row → (k : ℕ) (q : Put) → slice_get row k ≡ Some q → put_of q.block row ≡ Some q.bytes
put_at [] rising k q is = absurd (none-some q is)
put_at (r ∷ row) rising zero q is = subst (λ (x : Put). put_of x.block (r ∷ row) ≡ Some x.bytes) (same_Some r q is) (cond-true (r.block == r.block) (Some r.bytes) (put_of r.block row) (eq-eqb r.block r.block refl))
put_at (r ∷ row) rising (suc k) q is = by (put_at row (λ i j x y lt a b. rising (suc i) (suc j) x y (omega (arith, lt)) a b) k q is) (r.block == q.block) refl
  where
    clash : (a b : ℕ) → a ≡ b → a < b → ⊥
    clash a b e lt = omega (arith, e, lt)

    by : put_of q.block row ≡ Some q.bytes → (v : Bool) → (r.block == q.block) ≡ v → put_of q.block (r ∷ row) ≡ Some q.bytes
    by rest true own = absurd (clash r.block q.block (eqb-true r.block q.block own) (rising 0 (suc k) r q (omega arith) refl is))
    by rest false other = cond-false (r.block == q.block) (Some r.bytes) (put_of q.block row) other ∙ rest

-- and behind all of them none is
pub no_more : (row : List Put) → IsRising row → (k c : ℕ) → k ≤ length row → length row ≤ k → sent_behind 0 (take k row) ≤ c → put_of c row ≡ None
no_more row rising k c le ge from = none_between row rising k c le from (λ i p high is. omega (arith, ge, high, slice_get_within row i p is))
