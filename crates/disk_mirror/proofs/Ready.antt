-- The first write that is to be reported, by the tree over the rows.
use Rattle.std.proofs.Common.{◌≡◌, ◌⊎◌, ⊎_elim, ℕ, zero, suc, ◌+◌, ◌<◌, ◌≤◌, ◌||◌, nat_lt, not, Bool, true, false, if◌then◌else◌, List, [], ◌∷◌, length, get_or, Some, None, option_map, refl, sym, ◌∙◌, ap, arith}
use Rattle.std.specs.List.{position, position_or_len}
use Rattle.std.proofs.lemmas.Bool.{false≢true, cond-true, cond-false}
use Rattle.std.proofs.lemmas.List.{get_or_past}
use Rattle.disk_mirror.specs.declared.entry.Heard.{Heard}
use Rattle.disk_mirror.specs.declared.entry.Ripe.{Ripe}
use Rattle.disk_mirror.specs.Twin.{unheard}
use Rattle.disk_mirror.specs.Rows.{is_ready, first_ready}
use Rattle.disk_mirror.specs.Ripe.{is_ripe, ripe_of, ripe_at, IsFirstRipe, IsTree}

-- the place of the first item that passes
first_at : {X : Type 0} (p : X → Bool) (d : X) (xs : List X) (i : ℕ) → i < length xs → p (get_or xs i d) ≡ true → ((k : ℕ) → k < i → p (get_or xs k d) ≡ false) → position_or_len p xs ≡ i
first_at p d [] i low here before = absurd (none i low)
  where
    none : (i : ℕ) → i < 0 → ⊥
    none i low = omega (arith, low)
first_at p d (x ∷ xs) zero low here before = cond-false (not (p x)) (1 + position_or_len p xs) 0 (ap not here)
first_at p d (x ∷ xs) (suc i) low here before =
    let rest = first_at p d xs i (omega (arith, low)) here (λ k less. before (suc k) (omega (arith, less))) in
    let next : 1 + position_or_len p xs ≡ suc i = omega (arith, rest) in
    cond-true (not (p x)) (1 + position_or_len p xs) 0 (ap not (before 0 (omega arith))) ∙ next

none_at : {X : Type 0} (p : X → Bool) (d : X) (xs : List X) → ((k : ℕ) → k < length xs → p (get_or xs k d) ≡ false) → position_or_len p xs ≡ length xs
none_at p d [] none = refl
none_at p d (x ∷ xs) none =
    let rest = none_at p d xs (λ k less. none (suc k) (omega (arith, less))) in
    let next : 1 + position_or_len p xs ≡ suc (length xs) = omega (arith, rest) in
    cond-true (not (p x)) (1 + position_or_len p xs) 0 (ap not (none 0 (omega arith))) ∙ next

lt_true : (i n : ℕ) → i < n → nat_lt i n ≡ true
lt_true i n low = grind (arith, low)

lt_false : (n : ℕ) → nat_lt n n ≡ false
lt_false n = grind arith

position_at : {X : Type 0} (p : X → Bool) (d : X) (xs : List X) (i : ℕ) → i < length xs → p (get_or xs i d) ≡ true → ((k : ℕ) → k < i → p (get_or xs k d) ≡ false) → position p xs ≡ Some i
position_at p d xs i low here before =
    let at = first_at p d xs i low here before in
    cond-true _ _ _ (ap (λ m. nat_lt m (length xs)) at ∙ lt_true i (length xs) low) ∙ ap (λ m. Some m) at

position_none : {X : Type 0} (p : X → Bool) (d : X) (xs : List X) → ((k : ℕ) → k < length xs → p (get_or xs k d) ≡ false) → position p xs ≡ None
position_none p d xs none = cond-false _ _ _ (ap (λ m. nat_lt m (length xs)) (none_at p d xs none) ∙ lt_false (length xs))

-- a leaf has one to be reported exactly where its row is one
ripe_ready : (f s : Bool) (h : Heard) → (f || s) ≡ true → is_ripe f s (ripe_of h) ≡ is_ready f s h
ripe_ready f s h some = by f s h.reported h.first h.second some
  where
    by : (f s r x y : Bool) → (f || s) ≡ true → is_ripe f s (ripe_of (record { first = x; second = y; reported = r })) ≡ is_ready f s (record { first = x; second = y; reported = r })
    by true true r x y e = refl
    by true false true x y e = refl
    by true false false true y e = refl
    by true false false false y e = refl
    by false true r x y e = refl
    by false false r x y e = absurd (false≢true e)

none_unheard : (f s : Bool) → is_ripe f s (ripe_of unheard) ≡ false
none_unheard true true = refl
none_unheard true false = refl
none_unheard false true = refl
none_unheard false false = refl

pub ready_none : (f s : Bool) (nodes : List Ripe) (size room : ℕ) (heard : List Heard) → (f || s) ≡ true → length heard ≤ room → IsTree nodes size heard room → ((i : ℕ) → i < size → is_ripe f s (ripe_at nodes (size + i)) ≡ false) → None ≡ first_ready f s heard
ready_none f s nodes size room heard some few tree none =
    sym (ap (option_map (λ (k : ℕ). k + 1)) (position_none (is_ready f s) unheard heard (λ k low. sym (ripe_ready f s (get_or heard k unheard) some) ∙ sym (ap (is_ripe f s) (tree.leaves k (within k low))) ∙ none k (within k low))))
  where
    within : (k : ℕ) → k < length heard → k < size
    within k low = omega (arith, low, few, tree.enough)

pub ready_some : (f s : Bool) (nodes : List Ripe) (size room at : ℕ) (heard : List Heard) → (f || s) ≡ true → IsTree nodes size heard room → IsFirstRipe f s nodes size at → (at < length heard) × (Some (at + 1) ≡ first_ready f s heard)
ready_some f s nodes size room at heard some tree is = (there, sym (ap (option_map (λ (k : ℕ). k + 1)) (position_at (is_ready f s) unheard heard at there here before)))
  where
    row : (k : ℕ) → k < size → is_ripe f s (ripe_at nodes (size + k)) ≡ is_ready f s (get_or heard k unheard)
    row k low = ap (is_ripe f s) (tree.leaves k low) ∙ ripe_ready f s (get_or heard k unheard) some

    here : is_ready f s (get_or heard at unheard) ≡ true
    here = sym (row at is.within) ∙ is.here

    before : (k : ℕ) → k < at → is_ready f s (get_or heard k unheard) ≡ false
    before k less = sym (row k (omega (arith, less, is.within))) ∙ is.before k less

    split : (i n : ℕ) → (i < n) ⊎ (n ≤ i)
    split i n = grind arith

    there : at < length heard
    there = ⊎_elim (λ low. low) (λ past. absurd (false≢true (sym (none_unheard f s) ∙ ap (λ h. is_ripe f s (ripe_of h)) (sym (get_or_past heard at unheard past)) ∙ sym (ap (is_ripe f s) (tree.leaves at is.within)) ∙ is.here))) (split at (length heard))
