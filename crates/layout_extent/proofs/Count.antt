-- How many stretches a list has, counted from the front and by its runs.
use Rattle.std.proofs.Common.{◌≡◌, ℕ, zero, suc, ◌+◌, ◌-◌, ◌<◌, ◌≤◌, Bool, true, false, not, cond, ◌==◌, if◌then◌else◌, List, [], ◌∷◌, ◌++◌, length, get_or, take, drop, slice_get, Option, Some, None, refl, sym, ap, ◌∙◌, arith, append_assoc}
use Rattle.std.specs.List.{zip, count_by}
use Rattle.std.specs.Option.{option_map}
use Rattle.std.proofs.lemmas.Bool.{eq-eqb}
use Rattle.std.proofs.lemmas.List.{take_more, take-append-drop}
use Rattle.std.proofs.lemmas.List.Sums.{sum_by-cons}
use Rattle.base_types.specs.declared.places.Run.{Run}
use Rattle.base_types.specs.Runs.{blocks_from, run_places}
use Rattle.layout_extent.specs.Runs.{is_break, stretches, before_runs, runs_of, AreTidy}
use Rattle.layout_extent.specs.Next.{next_after, next_number, goes_on}
use Rattle.layout_extent.specs.TidyLaws.{tidy_first, tidy_rest, runs_of_places}

-- how many numbers don't go on, where this one would at the beginning
abbrev starts : Option ℕ → List ℕ → ℕ
starts next [] = 0
starts next (x ∷ xs) = cond (goes_on next x) 0 1 + starts (Some (x + 1)) xs

turned : (t : Bool) → ◌≡◌ {A = ℕ} (cond (not t) 1 0) (cond t 0 1)
turned true = refl
turned false = refl

breaks_are_starts : (x : ℕ) (xs : List ℕ) → count_by is_break (zip (x ∷ xs) xs) ≡ starts (Some (x + 1)) xs
breaks_are_starts x [] = refl
breaks_are_starts x (y ∷ ys) =
    let first : cond (not (y == x + 1)) 1 0 ≡ cond (y == x + 1) 0 1 = turned (y == x + 1) in
    let rest : count_by is_break (zip (y ∷ ys) ys) ≡ starts (Some (y + 1)) ys = breaks_are_starts y ys in
    sum_by-cons (λ p. cond (is_break p) 1 0) (x, y) (zip (y ∷ ys) ys) ∙ ap (λ n. n + count_by is_break (zip (y ∷ ys) ys)) first ∙ ap (λ n. cond (y == x + 1) 0 1 + n) rest

stretches_are_starts : (xs : List ℕ) → stretches xs ≡ starts None xs
stretches_are_starts [] = refl
stretches_are_starts (x ∷ xs) = ap (λ n. 1 + n) (breaks_are_starts x xs)

starts_append : (next : Option ℕ) (xs ys : List ℕ) → starts next (xs ++ ys) ≡ starts next xs + starts (next_after next xs) ys
starts_append next [] ys = omega arith
starts_append next (x ∷ xs) ys =
    let rest : starts (Some (x + 1)) (xs ++ ys) ≡ starts (Some (x + 1)) xs + starts (next_after (Some (x + 1)) xs) ys = starts_append (Some (x + 1)) xs ys in
    omega arith

stretches_append : (xs ys : List ℕ) → stretches (xs ++ ys) ≡ stretches xs + starts (next_number xs) ys
stretches_append xs ys = stretches_are_starts (xs ++ ys) ∙ starts_append None xs ys ∙ ap (λ n. n + starts (next_number xs) ys) (sym (stretches_are_starts xs))

-- one more number
pub stretches_push : (xs : List ℕ) (y : ℕ) → stretches (xs ++ y ∷ []) ≡ stretches xs + cond (goes_on (next_number xs) y) 0 1
stretches_push xs y =
    stretches_append xs (y ∷ []) ∙ ap (λ n. stretches xs + n) {x = cond (goes_on (next_number xs) y) 0 1 + 0} {y = cond (goes_on (next_number xs) y) 0 1} (omega arith)

-- a front has no more stretches than the whole
pub stretches_front : (xs ys : List ℕ) → stretches xs ≤ stretches (xs ++ ys)
stretches_front xs ys = let e = stretches_append xs ys in omega arith

pub next_append : (next : Option ℕ) (xs ys : List ℕ) → next_after next (xs ++ ys) ≡ next_after (next_after next xs) ys
next_append next [] ys = refl
next_append next (x ∷ xs) ys = next_append (Some (x + 1)) xs ys

-- a list has as many runs as stretches

abbrev FirstIs : ℕ → List Run → Type 0
FirstIs x [] = ⊥
FirstIs x (r ∷ rs) = r.first ≡ x

first_by : (x : ℕ) (r : Run) (rs : List Run) (t : Bool)
    → FirstIs x (if t then record { first = x; count = r.count + 1 } ∷ rs else record { first = x; count = 1 } ∷ r ∷ rs)
first_by x r rs true = refl
first_by x r rs false = refl

first_is : (x : ℕ) (rs : List Run) → FirstIs x (before_runs x rs)
first_is x [] = refl
first_is x (r ∷ rs) = first_by x r rs (r.first == x + 1)

length_by : (x : ℕ) (r : Run) (rs : List Run) (t : Bool)
    → length (if t then record { first = x; count = r.count + 1 } ∷ rs else record { first = x; count = 1 } ∷ r ∷ rs) ≡ cond (not t) 1 0 + length (r ∷ rs)
length_by x r rs true = omega arith
length_by x r rs false = omega arith

length_before : (x y : ℕ) (rs : List Run) → FirstIs y rs → length (before_runs x rs) ≡ cond (is_break (x, y)) 1 0 + length rs
length_before x y [] e = absurd e
length_before x y (r ∷ rs) e = length_by x r rs (r.first == x + 1) ∙ ap (λ n. cond (not (n == x + 1)) 1 0 + length (r ∷ rs)) e

pub runs_count : (xs : List ℕ) → length (runs_of xs) ≡ stretches xs
runs_count [] = refl
runs_count (x ∷ []) = refl
runs_count (x ∷ y ∷ ys) =
    let more : length (before_runs x (runs_of (y ∷ ys))) ≡ cond (is_break (x, y)) 1 0 + length (runs_of (y ∷ ys)) = length_before x y (runs_of (y ∷ ys)) (first_is y (runs_of ys)) in
    let rest : length (runs_of (y ∷ ys)) ≡ 1 + count_by is_break (zip (y ∷ ys) ys) = runs_count (y ∷ ys) in
    let all : count_by is_break ((x, y) ∷ zip (y ∷ ys) ys) ≡ cond (is_break (x, y)) 1 0 + count_by is_break (zip (y ∷ ys) ys) = sum_by-cons (λ p. cond (is_break p) 1 0) (x, y) (zip (y ∷ ys) ys) in
    omega arith

-- tidy runs are as many as the stretches of their numbers
pub tidy_count : (rs : List Run) → AreTidy rs → length rs ≡ stretches (run_places rs)
tidy_count rs t = ap length (sym (runs_of_places rs t)) ∙ runs_count (run_places rs)

-- the number that goes on with tidy runs

next_of_blocks : (next : Option ℕ) (x c : ℕ) → next_after next (blocks_from x (suc c)) ≡ Some (x + suc c)
next_of_blocks next x zero = refl
next_of_blocks next x (suc c) = next_of_blocks (Some (x + 1)) (x + 1) c ∙ ap Some {x = x + 1 + suc c} {y = x + suc (suc c)} (omega arith)

next_of_run : (next : Option ℕ) (x c : ℕ) → 0 < c → next_after next (blocks_from x c) ≡ Some (x + c)
next_of_run next x zero p = absurd (omega arith)
next_of_run next x (suc c) p = next_of_blocks next x c

-- the number right behind a run
abbrev pub end_of : Option Run → Option ℕ
end_of r = option_map (λ r. r.first + r.count) r

next_of_tidy : (next : Option ℕ) (r : Run) (rs : List Run) → AreTidy (r ∷ rs) → next_after next (run_places (r ∷ rs)) ≡ end_of (slice_get (r ∷ rs) (length rs))
next_of_tidy next r [] t = next_append next (blocks_from r.first r.count) [] ∙ next_of_run next r.first r.count (tidy_first r [] t)
next_of_tidy next r (s ∷ rs) t =
    next_append next (blocks_from r.first r.count) (run_places (s ∷ rs)) ∙ next_of_tidy (next_after next (blocks_from r.first r.count)) s rs (tidy_rest r (s ∷ rs) t)

pub next_of_runs : (rs : List Run) → AreTidy rs → next_number (run_places rs) ≡ end_of (slice_get rs (length rs - 1))
next_of_runs [] t = refl
next_of_runs (r ∷ rs) t = next_of_tidy None r rs t ∙ ap (λ n. end_of (slice_get (r ∷ rs) n)) {x = length rs} {y = suc (length rs) - 1} (omega arith)

-- neighbouring numbers behind a list

none_starts : (x c : ℕ) → starts (Some x) (blocks_from x c) ≡ 0
none_starts x zero = refl
none_starts x (suc c) =
    let one : ◌≡◌ {A = ℕ} (cond (x == x) 0 1) 0 = ap (λ t. cond t 0 1) (eq-eqb x x refl) in
    let rest : starts (Some (x + 1)) (blocks_from (x + 1) c) ≡ 0 = none_starts (x + 1) c in
    omega (arith, one, rest)

starts_run : (next : Option ℕ) (x c : ℕ) → 0 < c → starts next (blocks_from x c) ≡ cond (goes_on next x) 0 1
starts_run next x zero p = absurd (omega (arith, p))
starts_run next x (suc c) p = let rest : starts (Some (x + 1)) (blocks_from (x + 1) c) ≡ 0 = none_starts (x + 1) c in omega (arith, rest)

pub stretches_run : (xs : List ℕ) (x c : ℕ) → 0 < c → stretches (xs ++ blocks_from x c) ≡ stretches xs + cond (goes_on (next_number xs) x) 0 1
stretches_run xs x c p = stretches_append xs (blocks_from x c) ∙ ap (λ n. stretches xs + n) (starts_run (next_number xs) x c p)

pub next_run : (xs : List ℕ) (x c : ℕ) → 0 < c → next_number (xs ++ blocks_from x c) ≡ Some (x + c)
next_run xs x c p = next_append None xs (blocks_from x c) ∙ next_of_run (next_number xs) x c p

-- one number more of a list that is joined

pub push_more : (old list : List ℕ) (i : ℕ) → i < length list → old ++ take (i + 1) list ≡ (old ++ take i list) ++ get_or list i 0 ∷ []
push_more old list i h = ap (λ xs. old ++ xs) (take_more list i 0 h) ∙ sym (append_assoc old (take i list) (get_or list i 0 ∷ []))

pub runs_more : (old list : List ℕ) (i runs : ℕ) (next : Option ℕ) (t : Bool) → i < length list
    → runs ≡ stretches (old ++ take i list) → next ≡ next_number (old ++ take i list) → t ≡ goes_on next (get_or list i 0)
    → runs + cond t 0 1 ≡ stretches (old ++ take (i + 1) list)
runs_more old list i runs next t h r n e =
    ap (λ b. runs + cond b 0 1) (e ∙ ap (λ o. goes_on o (get_or list i 0)) n)
    ∙ ap (λ k. k + cond (goes_on (next_number (old ++ take i list)) (get_or list i 0)) 0 1) r
    ∙ sym (stretches_push (old ++ take i list) (get_or list i 0))
    ∙ ap stretches (sym (push_more old list i h))

pub next_more : (old list : List ℕ) (i : ℕ) → i < length list → Some (get_or list i 0 + 1) ≡ next_number (old ++ take (i + 1) list)
next_more old list i h = sym (next_append None (old ++ take i list) (get_or list i 0 ∷ [])) ∙ ap next_number (sym (push_more old list i h))

-- a front of a list that has room has room
pub front_room : (old list : List ℕ) (i : ℕ) → i < length list → stretches ((old ++ take i list) ++ get_or list i 0 ∷ []) ≤ stretches (old ++ list)
front_room old list i h =
    let front : stretches (old ++ take (i + 1) list) ≤ stretches ((old ++ take (i + 1) list) ++ drop (i + 1) list) = stretches_front (old ++ take (i + 1) list) (drop (i + 1) list) in
    let more : stretches (old ++ take (i + 1) list) ≡ stretches ((old ++ take i list) ++ get_or list i 0 ∷ []) = ap stretches (push_more old list i h) in
    let whole : stretches ((old ++ take (i + 1) list) ++ drop (i + 1) list) ≡ stretches (old ++ list) =
    ap stretches (append_assoc old (take (i + 1) list) (drop (i + 1) list) ∙ ap (λ xs. old ++ xs) (take-append-drop (i + 1) list)) in
    omega arith
