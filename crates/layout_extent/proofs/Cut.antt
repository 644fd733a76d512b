-- Runs cut behind so many numbers.
use Rattle.std.proofs.Common.{◌≡◌, ℕ, zero, suc, ◌+◌, ◌-◌, ◌<◌, ◌≤◌, min, List, [], ◌∷◌, ◌++◌, length, take, drop, refl, sym, ap, subst, ◌∙◌, arith}
use Rattle.std.proofs.lemmas.List.{drop_all, append-nil}
use Rattle.std.proofs.lemmas.List.Elements.{All-nil, All-cons, All-head, All-tail}
use Rattle.base_types.specs.declared.places.Run.{Run}
use Rattle.base_types.specs.Runs.{blocks_from, run_places}
use Rattle.layout_extent.specs.Runs.{AreTidy, LieBelow}
use Rattle.layout_extent.specs.TidyLaws.{Apart, tidy_cons, tidy_first, tidy_apart, tidy_rest}

-- the runs of the first n numbers
abbrev pub cut_runs : ℕ → List Run → List Run
cut_runs zero rs = []
cut_runs (suc n) [] = []
cut_runs (suc n) (r ∷ rs) = record { first = r.first; count = min r.count (suc n) } ∷ cut_runs (suc n - r.count) rs

take_blocks : (x c n : ℕ) (ys : List ℕ) → take n (blocks_from x c ++ ys) ≡ blocks_from x (min c n) ++ take (n - c) ys
take_blocks x zero n ys =
    ap (λ m. take m ys) {x = n} {y = n - zero} (omega arith) ∙ ap (λ m. blocks_from x m ++ take (n - zero) ys) {x = zero} {y = min zero n} (omega arith)
take_blocks x (suc c) zero ys =
    ap (λ m. take m ys) {x = zero} {y = zero - suc c} (omega arith) ∙ ap (λ m. blocks_from x m ++ take (zero - suc c) ys) {x = zero} {y = min (suc c) zero} (omega arith)
take_blocks x (suc c) (suc n) ys =
    ap (λ zs. x ∷ zs) (take_blocks (x + 1) c n ys)
    ∙ ap (λ m. x ∷ (blocks_from (x + 1) (min c n) ++ take m ys)) {x = n - c} {y = suc n - suc c} (omega arith)
    ∙ ap (λ m. blocks_from x m ++ take (suc n - suc c) ys) {x = suc (min c n)} {y = min (suc c) (suc n)} (omega arith)

pub cut_places : (n : ℕ) (rs : List Run) → run_places (cut_runs n rs) ≡ take n (run_places rs)
cut_places zero rs = refl
cut_places (suc n) [] = refl
cut_places (suc n) (r ∷ rs) =
    ap (λ zs. blocks_from r.first (min r.count (suc n)) ++ zs) (cut_places (suc n - r.count) rs) ∙ sym (take_blocks r.first r.count (suc n) (run_places rs))

cut_apart : (end n : ℕ) (rs : List Run) → Apart end rs → Apart end (cut_runs n rs)
cut_apart end zero rs a = tt
cut_apart end (suc n) [] a = tt
cut_apart end (suc n) (r ∷ rs) a = a

apart_behind : (n m : ℕ) (r : Run) (rs : List Run) → m ≡ suc n - r.count → Apart (r.first + r.count) rs → Apart (r.first + min r.count (suc n)) (cut_runs m rs)
apart_behind n zero r rs e a = tt
apart_behind n (suc m) r rs e a =
    subst (λ k. Apart k (cut_runs (suc m) rs)) {x = r.first + r.count} {y = r.first + min r.count (suc n)} (omega arith) (cut_apart (r.first + r.count) (suc m) rs a)

pub cut_tidy : (n : ℕ) (rs : List Run) → AreTidy rs → AreTidy (cut_runs n rs)
cut_tidy zero rs t = tt
cut_tidy (suc n) [] t = tt
cut_tidy (suc n) (r ∷ rs) t =
    let some : 0 < r.count = tidy_first r rs t in
    tidy_cons (record { first = r.first; count = min r.count (suc n) }) (cut_runs (suc n - r.count) rs) (omega arith)
    (apart_behind n (suc n - r.count) r rs refl (tidy_apart r rs t)) (cut_tidy (suc n - r.count) rs (tidy_rest r rs t))

pub cut_below : (m n : ℕ) (rs : List Run) → LieBelow m rs → LieBelow m (cut_runs n rs)
cut_below m zero rs h = All-nil (λ r. r.first + r.count ≤ m)
cut_below m (suc n) [] h = h
cut_below m (suc n) (r ∷ rs) h =
    let here : r.first + r.count ≤ m = All-head (λ r. r.first + r.count ≤ m) r rs h in
    All-cons (λ r. r.first + r.count ≤ m) (record { first = r.first; count = min r.count (suc n) }) (cut_runs (suc n - r.count) rs) (omega arith)
    (cut_below m (suc n - r.count) rs (All-tail (λ r. r.first + r.count ≤ m) r rs h))

cut_empty : (n : ℕ) → cut_runs n [] ≡ []
cut_empty zero = refl
cut_empty (suc n) = refl

cut_all : (kept rs : List Run) (left i : ℕ) → length rs ≤ i → kept ++ cut_runs left (drop i rs) ≡ kept
cut_all kept rs left i h = ap (λ ss. kept ++ cut_runs left ss) (drop_all i rs h) ∙ ap (λ ss. kept ++ ss) (cut_empty left) ∙ append-nil kept

-- at the end all is kept that the whole gives
pub kept_all : (kept rs : List Run) (left i n : ℕ) → length rs ≤ i → kept ++ cut_runs left (drop i rs) ≡ cut_runs n rs → kept ≡ cut_runs n rs
kept_all kept rs left i n h e = sym (cut_all kept rs left i h) ∙ e
