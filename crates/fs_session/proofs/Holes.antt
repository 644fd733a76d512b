-- Numbers that are none of the holes: when all up to a number go, and when one goes.
use Rattle.std.proofs.Common.{◌≡◌, ℕ, suc, ◌+◌, ◌-◌, ◌<◌, ◌≤◌, ◌==◌, ◌||◌, min, max, nat_lt, List, length, take, drop, get_or, filter, remove, Bool, true, false, ◌⊎◌, inl, inr, sym, ap, ap₂, ◌∙◌, arith, take-append-drop}
use Rattle.std.specs.List.{list_any}
use Rattle.std.proofs.lemmas.Bool.{cases_lt, or_parts, ne_eqb, eqb-true}
use Rattle.std.proofs.lemmas.Bool.Decides.{nat_tests}
use Rattle.std.proofs.lemmas.List.Folds.{list_any-append, list_any_more}
use Rattle.std.proofs.lemmas.Map.Views.{any-filter_same}
use Rattle.crash_stands.specs.Files.{Files}
use Rattle.fs_files.specs.Calls.{IsUsed}
use Rattle.fs_session.specs.Sessions.{KeepsUsed}
use Rattle.fs_session.specs.declared.unused.NodeUse.TheVariants.{Taken}

-- this number is none of these
abbrev pub HasNot : ℕ → List ℕ → Type 0
HasNot l xs = list_any (λ hole. hole == l) xs ≡ false

-- all nodes up to a number are in use, but for these holes
abbrev pub UsedBut : Files → ℕ → List ℕ → Type 0
UsedBut files upto holes = (l : ℕ) → 1 ≤ l → l ≤ upto → HasNot l holes → IsUsed files l

-- a number above another one is no hole where none of those above that is
above : (holes : List ℕ) (number l : ℕ) → number < l → HasNot l (filter (λ hole. nat_lt number hole) holes) → HasNot l holes
above holes number l low bare = sym (any-filter_same (λ hole. hole == l) (λ hole. nat_lt number hole) true (λ k is. let e : k ≡ l = eqb-true k l is in grind (arith, nat_tests)) holes) ∙ bare

-- All nodes up to a number are in use, and the holes up to it go.
pub taken : (old new : Files) (number upto : ℕ) (holes : List ℕ) → KeepsUsed (Taken number) old new → UsedBut old upto holes → UsedBut new (max upto number) (filter (λ hole. nat_lt number hole) holes)
taken old new number upto holes uses used l from most bare = by (cases_lt number l)
  where
    by : (number < l) ⊎ (l ≤ number) → IsUsed new l
    by (inl low) = uses.0 l (used l from (omega (arith, low, most)) (above holes number l low bare))
    by (inr high) = uses.1 l from (omega (arith, high))

-- A hole goes, and the last one known to be in use is below it.
pub forgotten : (files : Files) (upto place hole : ℕ) (holes : List ℕ) → place < length holes → hole ≡ get_or holes place hole → UsedBut files upto holes → UsedBut files (min upto (hole - 1)) (remove holes place)
forgotten files upto place hole holes within is used l from most bare =
    let test : ℕ → Bool = λ h. h == l in
    let one : suc place ≡ place + 1 = omega arith in
    let parts = or_parts (list_any test (take place holes)) (list_any test (drop (suc place) holes)) (sym (list_any-append test (take place holes) (drop (suc place) holes)) ∙ bare) in
    let here : test (get_or holes place hole) ≡ false = ap test (sym is) ∙ ne_eqb hole l (λ e. absurd (omega (arith, e, from, most))) in
    let front : list_any test (take (place + 1) holes) ≡ false = list_any_more test holes place hole within ∙ ap₂ (λ a b. a || b) parts.0 here in
    let behind : list_any test (drop (place + 1) holes) ≡ false = ap (λ n. list_any test (drop n holes)) (sym one) ∙ parts.1 in
    used l from (omega (arith, most))
    (ap (list_any test) (sym (take-append-drop (place + 1) holes)) ∙ list_any-append test (take (place + 1) holes) (drop (place + 1) holes) ∙ ap₂ (λ a b. a || b) front behind)
