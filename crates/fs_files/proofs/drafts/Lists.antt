-- Which numbers a list has.
use Rattle.std.proofs.Common.{◌≡◌, ℕ, zero, suc, ◌<◌, ◌==◌, Bool, true, false, cond, not, ◌&&◌, ◌||◌, List, [], ◌∷◌, ◌++◌, take, drop, All, refl, sym, ap, subst, ◌∙◌, arith, ◌⊎◌, inl, inr}
use Rattle.std.proofs.lemmas.Bool.{and_parts, cases_Bool, eqb-true, false≢true, or_left, or_right, or_cases, false_from_ne_true}
use Rattle.std.proofs.Math.Bool.{or_assoc}
use Rattle.std.proofs.lemmas.Bool.Decides.{nat_tests}
use Rattle.layout_geometry.specs.Geometry.{Geometry, data_start}
use Rattle.engine_blocks.specs.Puts.{IsData}
use Rattle.engine_blocks.specs.Running.{has}
use Rattle.fs_files.specs.Growing.{alone}

or_none : (a : Bool) → (a || false) ≡ a
or_none a = grind (arith, nat_tests)

pub has_one : (b c : ℕ) → has (b ∷ []) c ≡ (c == b)
has_one b c = or_none (c == b)

pub has_append : (xs ys : List ℕ) (c : ℕ) → has (xs ++ ys) c ≡ (has xs c || has ys c)
has_append [] ys c = refl
has_append (x ∷ xs) ys c = ap (λ t. (c == x) || t) (has_append xs ys c) ∙ sym (or_assoc (c == x) (has xs c) (has ys c))

pub has_push : (xs : List ℕ) (b c : ℕ) → has (xs ++ b ∷ []) c ≡ (has xs c || (c == b))
has_push xs b c = has_append xs (b ∷ []) c ∙ ap (λ t. has xs c || t) (has_one b c)

-- those of a list that aren't kept
pub has_alone : (kept : ℕ → Bool) (xs : List ℕ) (b : ℕ) → has (alone kept xs) b ≡ (has xs b && not (kept b))
has_alone kept [] b = refl
has_alone kept (x ∷ xs) b = by (cases_Bool (b == x)) (cases_Bool (kept x)) (has_alone kept xs b)
  where
    by : ((b == x) ≡ true) ⊎ ((b == x) ≡ false) → (kept x ≡ true) ⊎ (kept x ≡ false) → has (alone kept xs) b ≡ (has xs b && not (kept b)) → has (alone kept (x ∷ xs)) b ≡ (has (x ∷ xs) b && not (kept b))
    by here it rest = grind (arith, nat_tests)

pub in_alone : (kept : ℕ → Bool) (xs : List ℕ) (b : ℕ) → has (alone kept xs) b ≡ true → has xs b ≡ true
in_alone kept xs b is = (and_parts (has xs b) (not (kept b)) (sym (has_alone kept xs b) ∙ is)).0

-- what holds of all numbers of a list holds of each that it has
pub each_of : (P : ℕ → Type 0) (bs : List ℕ) → All P bs → (c : ℕ) → has bs c ≡ true → P c
each_of P [] all c is = absurd (false≢true is)
each_of P (x ∷ xs) all c is = by (cases_Bool (c == x)) (each_of P xs (λ i d low. all (suc i) d (omega (arith, low))) c)
  where
    by : ((c == x) ≡ true) ⊎ ((c == x) ≡ false) → (has xs c ≡ true → P c) → P c
    by (inl e) rest = subst P (sym (eqb-true c x e)) (all 0 0 (omega arith))
    by (inr f) rest = rest (sym (ap (λ t. t || has xs c) f) ∙ is)

-- what is behind a place of a list, or before it, is of the list
pub in_rest : (n : ℕ) (xs : List ℕ) (c : ℕ) → has (drop n xs) c ≡ true → has xs c ≡ true
in_rest zero xs c e = e
in_rest (suc n) [] c e = e
in_rest (suc n) (x ∷ xs) c e = or_right (c == x) (has xs c) (in_rest n xs c e)

pub in_front : (n : ℕ) (xs : List ℕ) (c : ℕ) → has (take n xs) c ≡ true → has xs c ≡ true
in_front zero xs c e = absurd (false≢true e)
in_front (suc n) [] c e = e
in_front (suc n) (x ∷ xs) c e = by (in_front n xs c) (or_cases (c == x) (has (take n xs) c) e)
  where
    by : (has (take n xs) c ≡ true → has xs c ≡ true) → ((c == x) ≡ true) ⊎ (has (take n xs) c ≡ true) → ((c == x) || has xs c) ≡ true
    by further (inl same) = or_left (c == x) (has xs c) same
    by further (inr rest) = or_right (c == x) (has xs c) (further rest)

-- a block of the table is no data block
pub none_of_table : (g : Geometry) (bs : List ℕ) (c : ℕ) → All (IsData g) bs → c < data_start g → has bs c ≡ false
none_of_table g bs c all low = false_from_ne_true (has bs c) (λ is. omega (arith, (each_of (IsData g) bs all c is).from, low))

-- one value for these and then for those is one value for both
pub merged : {A : Type 0} (h t : Bool) (z o : A) → cond t z (cond h z o) ≡ cond (h || t) z o
merged h t z o = grind (arith, nat_tests)
