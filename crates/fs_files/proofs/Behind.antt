-- Runs of the numbers behind so many.
use Rattle.std.proofs.Common.{◌≡◌, ℕ, zero, suc, ◌+◌, ◌-◌, ◌≤◌, List, [], ◌∷◌, ◌++◌, length, drop, refl, sym, ap, subst, ◌∙◌, arith}
use Rattle.std.proofs.lemmas.List.{drop_all, append-nil}
use Rattle.std.proofs.lemmas.List.Elements.{All-cons, All-head, All-tail}
use Rattle.std.specs.Prelude.{Bool, true, false, if◌then◌else◌, nat_lt}
use Rattle.std.proofs.lemmas.Bool.{ltb-true, ltb-false, lt-ltb}
use Rattle.base_types.specs.declared.places.Run.{Run}
use Rattle.base_types.specs.Runs.{blocks_from, run_places}
use Rattle.layout_extent.specs.Runs.{AreTidy, LieBelow}
use Rattle.layout_extent.specs.TidyLaws.{Apart, tidy_cons, tidy_first, tidy_apart, tidy_rest}

-- the run without its first n numbers
abbrev pub shorter : ℕ → Run → Run
shorter n r = record { first = r.first + n; count = r.count - n }

-- the runs of the numbers behind the first n
abbrev pub behind_runs : ℕ → List Run → List Run
behind_runs n [] = []
behind_runs n (r ∷ rs) = if nat_lt n r.count then shorter n r ∷ behind_runs 0 rs else behind_runs (n - r.count) rs

drop_blocks : (x c n : ℕ) (ys : List ℕ) → n ≤ c → drop n (blocks_from x c ++ ys) ≡ blocks_from (x + n) (c - n) ++ ys
drop_blocks x c zero ys h = ap (λ a. blocks_from a c ++ ys) {x = x} {y = x + zero} (omega arith) ∙ ap (λ b. blocks_from (x + zero) b ++ ys) {x = c} {y = c - zero} (omega arith)
drop_blocks x zero (suc n) ys h = absurd (omega arith)
drop_blocks x (suc c) (suc n) ys h =
    drop_blocks (x + 1) c n ys (omega arith)
    ∙ ap (λ a. blocks_from a (c - n) ++ ys) {x = x + 1 + n} {y = x + suc n} (omega arith)
    ∙ ap (λ b. blocks_from (x + suc n) b ++ ys) {x = c - n} {y = suc c - suc n} (omega arith)

drop_past : (x c n : ℕ) (ys : List ℕ) → c ≤ n → drop n (blocks_from x c ++ ys) ≡ drop (n - c) ys
drop_past x zero n ys h = ap (λ m. drop m ys) {x = n} {y = n - zero} (omega arith)
drop_past x (suc c) zero ys h = absurd (omega arith)
drop_past x (suc c) (suc n) ys h = drop_past (x + 1) c n ys (omega arith) ∙ ap (λ m. drop m ys) {x = n - c} {y = suc n - suc c} (omega arith)

places_by : (n : ℕ) (r : Run) (rs : List Run) (t : Bool) → nat_lt n r.count ≡ t → run_places (behind_runs 0 rs) ≡ run_places rs
    → (r.count ≤ n → run_places (behind_runs (n - r.count) rs) ≡ drop (n - r.count) (run_places rs))
    → run_places (if t then shorter n r ∷ behind_runs 0 rs else behind_runs (n - r.count) rs) ≡ drop n (run_places (r ∷ rs))
places_by n r rs true e all less =
    ap (λ ys. blocks_from (r.first + n) (r.count - n) ++ ys) all ∙ sym (drop_blocks r.first r.count n (run_places rs) (omega (arith, ltb-true n r.count e)))
places_by n r rs false e all less = let h = ltb-false n r.count e in less h ∙ sym (drop_past r.first r.count n (run_places rs) h)

pub behind_places : (n : ℕ) (rs : List Run) → run_places (behind_runs n rs) ≡ drop n (run_places rs)
behind_places zero [] = refl
behind_places (suc n) [] = refl
behind_places n (r ∷ rs) = places_by n r rs (nat_lt n r.count) refl (behind_places 0 rs) (λ h. behind_places (n - r.count) rs)

-- where none goes the first run begins as before
behind_apart : (end : ℕ) (rs : List Run) → AreTidy rs → Apart end rs → Apart end (behind_runs 0 rs)
behind_apart end [] t a = tt
behind_apart end (r ∷ rs) t a = by (nat_lt 0 r.count) (lt-ltb 0 r.count (tidy_first r rs t))
  where
    by : (b : Bool) → b ≡ true → Apart end (if b then shorter 0 r ∷ behind_runs 0 rs else behind_runs (0 - r.count) rs)
    by true e = λ same. a (omega (arith, same))
    by false e = absurd cc

tidy_by : (n : ℕ) (r : Run) (rs : List Run) (b : Bool) → nat_lt n r.count ≡ b → AreTidy (r ∷ rs) → AreTidy (behind_runs 0 rs) → AreTidy (behind_runs (n - r.count) rs)
    → AreTidy (if b then shorter n r ∷ behind_runs 0 rs else behind_runs (n - r.count) rs)
tidy_by n r rs true e t all less =
    let low = ltb-true n r.count e in
    tidy_cons (shorter n r) (behind_runs 0 rs) (omega (arith, low))
    (behind_apart (r.first + n + (r.count - n)) rs (tidy_rest r rs t) (subst (λ k. Apart k rs) {x = r.first + r.count} {y = r.first + n + (r.count - n)} (omega (arith, low)) (tidy_apart r rs t)))
    all
tidy_by n r rs false e t all less = less

pub behind_tidy : (n : ℕ) (rs : List Run) → AreTidy rs → AreTidy (behind_runs n rs)
behind_tidy n [] t = tt
behind_tidy n (r ∷ rs) t = tidy_by n r rs (nat_lt n r.count) refl t (behind_tidy 0 rs (tidy_rest r rs t)) (behind_tidy (n - r.count) rs (tidy_rest r rs t))

below_by : (m n : ℕ) (r : Run) (rs : List Run) (b : Bool) → nat_lt n r.count ≡ b → LieBelow m (r ∷ rs) → LieBelow m (behind_runs 0 rs) → LieBelow m (behind_runs (n - r.count) rs)
    → LieBelow m (if b then shorter n r ∷ behind_runs 0 rs else behind_runs (n - r.count) rs)
below_by m n r rs true e h all less =
    All-cons (λ r. r.first + r.count ≤ m) (shorter n r) (behind_runs 0 rs) (omega (arith, ltb-true n r.count e, All-head (λ r. r.first + r.count ≤ m) r rs h)) all
below_by m n r rs false e h all less = less

pub behind_below : (m n : ℕ) (rs : List Run) → LieBelow m rs → LieBelow m (behind_runs n rs)
behind_below m n [] h = h
behind_below m n (r ∷ rs) h =
    let rest = All-tail (λ r. r.first + r.count ≤ m) r rs h in below_by m n r rs (nat_lt n r.count) refl h (behind_below m 0 rs rest) (behind_below m (n - r.count) rs rest)

-- at the end all is there that the whole gives
pub behind_all : (kept rs : List Run) (left i n : ℕ) → length rs ≤ i → kept ++ behind_runs left (drop i rs) ≡ behind_runs n rs → kept ≡ behind_runs n rs
behind_all kept rs left i n h e = sym (append-nil kept) ∙ sym (ap (λ ss. kept ++ behind_runs left ss) (drop_all i rs h)) ∙ e
