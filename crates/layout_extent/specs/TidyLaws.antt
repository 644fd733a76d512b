-- The runs of a list have its numbers and are tidy, and tidy runs are those of their numbers.
use Rattle.std.proofs.Common.{◌≡◌, ◌≢◌, ℕ, zero, suc, ◌+◌, ◌<◌, Bool, true, false, ◌==◌, if◌then◌else◌, List, [], ◌∷◌, ◌++◌, refl, sym, ap, subst, ◌∙◌, arith}
use Rattle.std.proofs.lemmas.Bool.{eqb-true, eqb-false, eq-eqb}
use Rattle.std.specs.Prelude.{⊤}
use Rattle.base_types.specs.declared.places.Run.{Run}
use Rattle.base_types.specs.Runs.{blocks_from, run_places}
use Rattle.layout_extent.specs.Runs.{before_runs, runs_of, AreTidy}

-- no run begins at this number: what goes for the runs behind one that ends before it
abbrev pub Apart : ℕ → List Run → Type 0
Apart end [] = ⊤
Apart end (r ∷ rs) = r.first ≢ end

pub tidy_cons : (r : Run) (rs : List Run) → 0 < r.count → Apart (r.first + r.count) rs → AreTidy rs → AreTidy (r ∷ rs)
tidy_cons r [] p a t = p
tidy_cons r (s ∷ rs) p a t = (p, a, t)

pub tidy_first : (r : Run) (rs : List Run) → AreTidy (r ∷ rs) → 0 < r.count
tidy_first r [] t = t
tidy_first r (s ∷ rs) t = t.0

pub tidy_apart : (r : Run) (rs : List Run) → AreTidy (r ∷ rs) → Apart (r.first + r.count) rs
tidy_apart r [] t = tt
tidy_apart r (s ∷ rs) t = t.1

pub tidy_rest : (r : Run) (rs : List Run) → AreTidy (r ∷ rs) → AreTidy rs
tidy_rest r [] t = tt
tidy_rest r (s ∷ rs) t = t.2

-- the numbers of a list's runs

before_places_by : (x : ℕ) (r : Run) (rs : List Run) (t : Bool) → (r.first == x + 1) ≡ t
    → run_places (if t then record { first = x; count = r.count + 1 } ∷ rs else record { first = x; count = 1 } ∷ r ∷ rs) ≡ x ∷ run_places (r ∷ rs)
before_places_by x r rs true e =
    ap (λ n. blocks_from x n ++ run_places rs) {x = r.count + 1} {y = suc r.count} (omega arith)
    ∙ ap (λ n. x ∷ (blocks_from n r.count ++ run_places rs)) (sym (eqb-true r.first (x + 1) e))
before_places_by x r rs false e = refl

before_places : (x : ℕ) (rs : List Run) → run_places (before_runs x rs) ≡ x ∷ run_places rs
before_places x [] = refl
before_places x (r ∷ rs) = before_places_by x r rs (r.first == x + 1) refl

pub places_of_runs : (xs : List ℕ) → run_places (runs_of xs) ≡ xs
places_of_runs [] = refl
places_of_runs (x ∷ xs) = before_places x (runs_of xs) ∙ ap (λ ys. x ∷ ys) (places_of_runs xs)

-- the runs of a list are tidy

apart_same : (m n : ℕ) (rs : List Run) → m ≡ n → Apart m rs → Apart n rs
apart_same m n rs e a = subst (λ k. Apart k rs) e a

before_tidy_by : (x : ℕ) (r : Run) (rs : List Run) (t : Bool) → (r.first == x + 1) ≡ t → AreTidy (r ∷ rs)
    → AreTidy (if t then record { first = x; count = r.count + 1 } ∷ rs else record { first = x; count = 1 } ∷ r ∷ rs)
before_tidy_by x r rs true e t =
    let at : r.first ≡ x + 1 = eqb-true r.first (x + 1) e in
    tidy_cons (record { first = x; count = r.count + 1 }) rs (omega arith) (apart_same (r.first + r.count) (x + (r.count + 1)) rs (omega arith) (tidy_apart r rs t)) (tidy_rest r rs t)
before_tidy_by x r rs false e t = tidy_cons (record { first = x; count = 1 }) (r ∷ rs) (omega arith) (eqb-false r.first (x + 1) e) t

before_tidy : (x : ℕ) (rs : List Run) → AreTidy rs → AreTidy (before_runs x rs)
before_tidy x [] t = omega arith
before_tidy x (r ∷ rs) t = before_tidy_by x r rs (r.first == x + 1) refl t

pub runs_are_tidy : (xs : List ℕ) → AreTidy (runs_of xs)
runs_are_tidy [] = tt
runs_are_tidy (x ∷ xs) = before_tidy x (runs_of xs) (runs_are_tidy xs)

-- the runs of tidy runs' numbers

before_apart_by : (x : ℕ) (r : Run) (rs : List Run) (t : Bool) → (r.first == x + 1) ≡ t → r.first ≢ x + 1
    → (if t then record { first = x; count = r.count + 1 } ∷ rs else record { first = x; count = 1 } ∷ r ∷ rs) ≡ record { first = x; count = 1 } ∷ r ∷ rs
before_apart_by x r rs true e a = absurd (a (eqb-true r.first (x + 1) e))
before_apart_by x r rs false e a = refl

before_apart : (x : ℕ) (rs : List Run) → Apart (x + 1) rs → before_runs x rs ≡ record { first = x; count = 1 } ∷ rs
before_apart x [] a = refl
before_apart x (r ∷ rs) a = before_apart_by x r rs (r.first == x + 1) refl a

before_joins : (x c : ℕ) (rs : List Run) → before_runs x (record { first = x + 1; count = suc c } ∷ rs) ≡ record { first = x; count = suc (suc c) } ∷ rs
before_joins x c rs =
    ap (λ t. if t then record { first = x; count = suc c + 1 } ∷ rs else record { first = x; count = 1 } ∷ record { first = x + 1; count = suc c } ∷ rs) (eq-eqb (x + 1) (x + 1) refl)
    ∙ ap (λ n. record { first = x; count = n } ∷ rs) {x = suc c + 1} {y = suc (suc c)} (omega arith)

run_in_front : (x c : ℕ) (ys : List ℕ) (rs : List Run) → runs_of ys ≡ rs → Apart (x + suc c) rs
    → runs_of (blocks_from x (suc c) ++ ys) ≡ record { first = x; count = suc c } ∷ rs
run_in_front x zero ys rs e a = ap (before_runs x) e ∙ before_apart x rs a
run_in_front x (suc c) ys rs e a =
    ap (before_runs x) (run_in_front (x + 1) c ys rs e (apart_same (x + suc (suc c)) (x + 1 + suc c) rs (omega arith) a))
    ∙ before_joins x c rs

one_in_front : (x c : ℕ) (ys : List ℕ) (rs : List Run) → 0 < c → runs_of ys ≡ rs → Apart (x + c) rs
    → runs_of (blocks_from x c ++ ys) ≡ record { first = x; count = c } ∷ rs
one_in_front x zero ys rs p e a = absurd (omega arith)
one_in_front x (suc c) ys rs p e a = run_in_front x c ys rs e a

pub runs_of_places : (rs : List Run) → AreTidy rs → runs_of (run_places rs) ≡ rs
runs_of_places [] t = refl
runs_of_places (r ∷ rs) t = one_in_front r.first r.count (run_places rs) rs (tidy_first r rs t) (runs_of_places rs (tidy_rest r rs t)) (tidy_apart r rs t)
