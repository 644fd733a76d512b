-- At how many places of a range kept blocks stand, counted place by place.
use Rattle.std.proofs.Common.{◌≡◌, ℕ, zero, suc, ◌+◌, ◌<◌, ◌≤◌, ◌&&◌, nat_le, nat_lt, Bool, true, false, if◌then◌else◌, List, [], ◌∷◌, length, take, get_or, refl, sym, ap, ◌∙◌, arith}
use Rattle.std.proofs.lemmas.Bool.{le-leb, lt-leb, lt-ltb, le-ltb}
use Rattle.layout_extent.specs.Renew.{makes_way, renewals}
use Rattle.fs_files.proofs.drafts.Alone.{no_ways}

and_none : (t : Bool) → (t && false) ≡ false
and_none true = refl
and_none false = refl

-- where none is kept nothing makes way
pub way_none : (kept : ℕ → Bool) (from past : ℕ) (ps : List ℕ) (j : ℕ) → ((b : ℕ) → kept b ≡ false) → makes_way from past kept ps j ≡ false
way_none kept from past ps j none = ap (λ t. nat_le from j && (nat_lt j past && t)) (none (get_or ps j 0)) ∙ ap (λ t. nat_le from j && t) (and_none (nat_lt j past)) ∙ and_none (nat_le from j)

pub way_before : (kept : ℕ → Bool) (from past : ℕ) (ps : List ℕ) (j : ℕ) → j < from → makes_way from past kept ps j ≡ false
way_before kept from past ps j low = ap (λ t. t && (nat_lt j past && kept (get_or ps j 0))) (lt-leb from j low)

pub way_behind : (kept : ℕ → Bool) (from past : ℕ) (ps : List ℕ) (j : ℕ) → past ≤ j → makes_way from past kept ps j ≡ false
way_behind kept from past ps j high = ap (λ t. nat_le from j && (t && kept (get_or ps j 0))) (le-ltb j past high) ∙ and_none (nat_le from j)

pub way_within : (kept : ℕ → Bool) (from past : ℕ) (ps : List ℕ) (j : ℕ) → from ≤ j → j < past → makes_way from past kept ps j ≡ kept (get_or ps j 0)
way_within kept from past ps j low high = ap (λ t. t && (nat_lt j past && kept (get_or ps j 0))) (le-leb from j low) ∙ ap (λ t. t && kept (get_or ps j 0)) (lt-ltb j past high)

-- one place more
pub renewals_more : (test : ℕ → Bool) (i n : ℕ) (ps : List ℕ) → n < length ps → renewals test i (take (n + 1) ps) ≡ renewals test i (take n ps) + (if test (i + n) then 1 else 0)
renewals_more test i n [] low = absurd (omega (arith, low))
renewals_more test i zero (p ∷ ps) low =
    ap (λ k. renewals test i (take k (p ∷ ps))) {x = zero + 1} {y = suc zero} (omega arith)
    ∙ ap (λ k. (if test k then 1 else 0) + 0) {x = i} {y = i + 0} (omega arith)
    ∙ ap (λ k. k) {x = (if test (i + 0) then 1 else 0) + 0} {y = 0 + (if test (i + 0) then 1 else 0)} (omega arith)
renewals_more test i (suc n) (p ∷ ps) low =
    ap (λ k. renewals test i (take k (p ∷ ps))) {x = suc n + 1} {y = suc (n + 1)} (omega arith)
    ∙ ap (λ k. (if test i then 1 else 0) + k) (renewals_more test (i + 1) n ps (omega (arith, low)))
    ∙ ap (λ k. (if test i then 1 else 0) + (renewals test (i + 1) (take n ps) + (if test k then 1 else 0))) {x = i + 1 + n} {y = i + suc n} (omega arith)
    ∙ ap (λ k. k) {x = (if test i then 1 else 0) + (renewals test (i + 1) (take n ps) + (if test (i + suc n) then 1 else 0))} {y = (if test i then 1 else 0) + renewals test (i + 1) (take n ps) + (if test (i + suc n) then 1 else 0)} (omega arith)

-- the places behind the range count nothing
pub renewals_front : (test : ℕ → Bool) (i n : ℕ) (ps : List ℕ) → ((j : ℕ) → n ≤ j → j < length ps → test (i + j) ≡ false) → renewals test i (take n ps) ≡ renewals test i ps
renewals_front test i zero ps fails = sym (no_ways test i ps (λ j low. fails j (omega arith) low))
renewals_front test i (suc n) [] fails = refl
renewals_front test i (suc n) (p ∷ ps) fails = ap (λ k. (if test i then 1 else 0) + k) (renewals_front test (i + 1) n ps (λ j high low. ap test {x = i + 1 + j} {y = i + suc j} (omega arith) ∙ fails (suc j) (omega (arith, high)) (omega (arith, low))))
