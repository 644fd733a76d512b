-- Which numbers a list has, and how counts change where those of a list are counted one by one.
use Rattle.std.proofs.Common.{slice_set, ◌≡◌, ◌≢◌, ℕ, zero, suc, ◌+◌, ◌-◌, ◌<◌, ◌≤◌, ◌==◌, Bool, true, false, ◌||◌, if◌then◌else◌, List, [], ◌∷◌, ◌++◌, length, take, get_or, AllPairs, refl, sym, ap, ap₂, subst, ◌∙◌, ◌⊎◌, inl, inr, arith, eq-eqb, true≢false}
use Rattle.std.proofs.lemmas.Bool.{cases_Bool, eqb-true, ne_eqb}
use Rattle.std.proofs.Math.Bool.{or_assoc, or-false, or-true}
use Rattle.std.proofs.lemmas.List.{get_or-set_same, get_or-set_other}
use Rattle.engine_blocks.specs.Running.{has}
use Rattle.fs_files.specs.Shared.{keepers, SetsKeepers}
use Rattle.fs_commands.specs.Known.{CountsIn, CountsOut}

-- one more of a list is taken
has_next : (xs : List ℕ) (i c : ℕ) → i < length xs → has (take (suc i) xs) c ≡ (has (take i xs) c || (c == get_or xs i 0))
has_next [] i c low = absurd (omega (arith, low))
has_next (x ∷ xs) zero c low = or-false (c == x)
has_next (x ∷ xs) (suc i) c low = ap (λ t. (c == x) || t) (has_next xs i c (omega (arith, low))) ∙ sym (or_assoc (c == x) (has (take i xs) c) (c == get_or xs i 0))

-- where no two are the same, a number isn't among those before it
not_before : (xs : List ℕ) (i : ℕ) → i < length xs → AllPairs (λ a b. a ≢ b) xs → has (take i xs) (get_or xs i 0) ≡ false
not_before [] i low pairs = absurd (omega (arith, low))
not_before (x ∷ xs) zero low pairs = refl
not_before (x ∷ xs) (suc i) low pairs =
    ap (λ t. t || has (take i xs) (get_or xs i 0)) (ne_eqb (get_or xs i 0) x (λ e. pairs 0 (suc i) 0 (omega arith) low (sym e)))
    ∙ not_before xs i (omega (arith, low)) (λ j k e a b. pairs (suc j) (suc k) e (omega (arith, a)) (omega (arith, b)))

abbrev bit : Bool → ℕ
bit t = if t then 1 else 0

-- so it is counted once more
module _ (xs : List ℕ) (i : ℕ) (low : i < length xs) (once : AllPairs (λ a b. a ≢ b) xs) where
  counted_here : bit (has (take (suc i) xs) (get_or xs i 0)) ≡ bit (has (take i xs) (get_or xs i 0)) + 1
  counted_here = ap bit (has_next xs i (get_or xs i 0) low ∙ ap₂ (λ s t. s || t) (not_before xs i low once) (eq-eqb (get_or xs i 0) (get_or xs i 0) refl))
      ∙ sym (ap (λ t. bit t + 1) (not_before xs i low once))

  counted_else : (c : ℕ) → (c == get_or xs i 0) ≡ false → bit (has (take (suc i) xs) c) ≡ bit (has (take i xs) c)
  counted_else c off = ap bit (has_next xs i c low ∙ ap (λ t. has (take i xs) c || t) off ∙ or-false (has (take i xs) c))

  module _ (old mid new : List ℕ) where
    -- it wasn't counted so far
    pub uncounted_in : CountsIn (take i xs) old mid → keepers mid (get_or xs i 0) ≡ keepers old (get_or xs i 0)
    uncounted_in h = omega (arith, h.each (get_or xs i 0), ap bit (not_before xs i low once))

    pub uncounted_out : CountsOut (take i xs) old mid → keepers mid (get_or xs i 0) ≡ keepers old (get_or xs i 0)
    uncounted_out h = omega (arith, h.each (get_or xs i 0), ap bit (not_before xs i low once))

    next : suc i ≡ i + 1
    next = omega arith

    pub one_in : CountsIn (take i xs) old mid → SetsKeepers (get_or xs i 0) (keepers mid (get_or xs i 0) + 1) mid new → CountsIn (take (i + 1) xs) old new
    one_in h sets = subst (λ n. CountsIn (take n xs) old new) next (record { each = λ c. by c (cases_Bool (c == get_or xs i 0)); room = sets.room ∙ h.room })
      where
        by : (c : ℕ) → ((c == get_or xs i 0) ≡ true) ⊎ ((c == get_or xs i 0) ≡ false) → keepers new c ≡ keepers old c + (if has (take (suc i) xs) c then 1 else 0)
        by c (inl e) = subst (λ x. keepers new x ≡ keepers old x + (if has (take (suc i) xs) x then 1 else 0)) (sym (eqb-true c (get_or xs i 0) e)) (omega (arith, sets.here, h.each (get_or xs i 0), counted_here))
        by c (inr off) = omega (arith, sets.others c (λ e. absurd (true≢false (sym (eq-eqb c (get_or xs i 0) e) ∙ off))), h.each c, counted_else c off)

    pub one_out : CountsOut (take i xs) old mid → 0 < keepers mid (get_or xs i 0) → SetsKeepers (get_or xs i 0) (keepers mid (get_or xs i 0) - 1) mid new → CountsOut (take (i + 1) xs) old new
    one_out h some sets = subst (λ n. CountsOut (take n xs) old new) next (record { each = λ c. by c (cases_Bool (c == get_or xs i 0)); room = h.room ∙ sym sets.room })
      where
        by : (c : ℕ) → ((c == get_or xs i 0) ≡ true) ⊎ ((c == get_or xs i 0) ≡ false) → keepers old c ≡ keepers new c + (if has (take (suc i) xs) c then 1 else 0)
        by c (inl e) = subst (λ x. keepers old x ≡ keepers new x + (if has (take (suc i) xs) x then 1 else 0)) (sym (eqb-true c (get_or xs i 0) e)) (omega (arith, sets.here, some, h.each (get_or xs i 0), counted_here))
        by c (inr off) = omega (arith, sets.others c (λ e. absurd (true≢false (sym (eq-eqb c (get_or xs i 0) e) ∙ off))), h.each c, counted_else c off)

-- A mark was set for one more of a list.
pub marked_more : (xs : List ℕ) (i : ℕ) (marks : List Bool) (n : ℕ) → i < length xs → get_or xs i 0 < n → length marks ≡ n → ((b : ℕ) → b < n → get_or marks b false ≡ has (take i xs) b)
    → (b : ℕ) → b < n → get_or (slice_set marks (get_or xs i 0) true) b false ≡ has (take (i + 1) xs) b
marked_more xs i marks n low fits long h b below = by (cases_Bool (b == get_or xs i 0)) ∙ sym (ap (λ k. has (take k xs) b) {x = i + 1} {y = suc i} (omega arith) ∙ has_next xs i b low)
  where
    by : ((b == get_or xs i 0) ≡ true) ⊎ ((b == get_or xs i 0) ≡ false) → get_or (slice_set marks (get_or xs i 0) true) b false ≡ (has (take i xs) b || (b == get_or xs i 0))
    by (inl e) = ap (λ k. get_or (slice_set marks (get_or xs i 0) true) k false) (eqb-true b (get_or xs i 0) e) ∙ get_or-set_same marks (get_or xs i 0) true false (omega (arith, fits, long)) ∙ sym (ap (λ t. has (take i xs) b || t) e ∙ or-true (has (take i xs) b))
    by (inr off) = get_or-set_other marks (get_or xs i 0) b true false (λ e. absurd (true≢false (sym (eq-eqb b (get_or xs i 0) e) ∙ off))) ∙ h b below ∙ sym (ap (λ t. has (take i xs) b || t) off ∙ or-false (has (take i xs) b))
