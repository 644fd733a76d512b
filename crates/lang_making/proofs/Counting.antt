-- A number has no more paths in one map than another number has in another map, where each path of the one is a path of the other.
use Rattle.std.proofs.Common.{◌≡◌, ℕ, zero, suc, ◌+◌, ◌≤◌, ◌<◌, ◌==◌, if◌then◌else◌, List, Some, None, refl, sym, ap, ◌∙◌, ◌⊎◌, inl, inr, arith, eq-eqb}
use Rattle.std.proofs.lemmas.Option.{none-some}
use Rattle.std.specs.FinMap.{get, remove}
use Rattle.lang_tree.specs.Tree.{Names}
use Rattle.lang_tree.specs.Names.{path_count}
use Rattle.lang_making.proofs.Maps.{path_total, path_same, taken_at, taken_or}

-- a number that is counted has a path
abbrev pub CountsFound : Type 0
CountsFound = (names : Names) (n : ℕ) → 1 ≤ path_count names n → (p : List (List ℕ)) × (get names p ≡ Some n)

-- a path that is taken out is counted no more
abbrev pub CountsTaken : Type 0
CountsTaken = (names : Names) (p : List (List ℕ)) (m n : ℕ) → get names p ≡ Some m → path_count names n ≡ (if m == n then 1 else 0) + path_count (remove names p) n

module _ (found : CountsFound) (taken : CountsTaken) where
  one_less : (names : Names) (p : List (List ℕ)) (n : ℕ) → get names p ≡ Some n → path_count names n ≡ 1 + path_count (remove names p) n
  one_less names p n at = taken names p n n at ∙ ap (λ b. (if b then 1 else 0) + path_count (remove names p) n) (eq-eqb n n refl)

  pub fewer : (k : ℕ) (a b : Names) (i n : ℕ) → path_count a i ≡ k → ((p : List (List ℕ)) → get a p ≡ Some i → get b p ≡ Some n) → k ≤ path_count b n
  fewer zero a b i n is part = omega arith
  fewer (suc k) a b i n is part =
      let p = found a i (omega (arith, is)) in
      let rest = fewer k (remove a p.0) (remove b p.0) i n (omega (arith, is, one_less a p.0 i p.1)) (λ q at. by p.0 q at (taken_or path_total path_same a p.0 q) (taken_or path_total path_same b p.0 q)) in
      omega (arith, rest, one_less b p.0 n (part p.0 p.1))
    where
      by : (p q : List (List ℕ)) → get (remove a p) q ≡ Some i → (q ≡ p) ⊎ (get (remove a p) q ≡ get a q) → (q ≡ p) ⊎ (get (remove b p) q ≡ get b q) → get (remove b p) q ≡ Some n
      by p q at (inl same) other = absurd (none-some i (sym (taken_at path_total path_same a p q same) ∙ at))
      by p q at (inr old) (inl same) = absurd (none-some i (sym (taken_at path_total path_same a p q same) ∙ at))
      by p q at (inr old) (inr is) = is ∙ part q (sym old ∙ at)

  -- and it has fewer, where a path of the other one isn't there
  pub fewer_than : (a b : Names) (i n : ℕ) (p : List (List ℕ)) → get a p ≡ None → get b p ≡ Some n → ((q : List (List ℕ)) → get a q ≡ Some i → get b q ≡ Some n) → path_count a i < path_count b n
  fewer_than a b i n p none at part =
      let rest = fewer (path_count a i) a (remove b p) i n refl (λ q there. by q there (taken_or path_total path_same b p q)) in
      omega (arith, rest, one_less b p n at)
    where
      by : (q : List (List ℕ)) → get a q ≡ Some i → (q ≡ p) ⊎ (get (remove b p) q ≡ get b q) → get (remove b p) q ≡ Some n
      by q there (inl same) = absurd (none-some i (sym (ap (get a) same ∙ none) ∙ there))
      by q there (inr is) = is ∙ part q there
