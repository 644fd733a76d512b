-- The tree that finds the first write to be reported: a leaf that is changed, and the way down to a leaf.
use Rattle.std.proofs.Common.{◌≡◌, ◌≢◌, ◌⊎◌, inl, inr, ⊎_elim, ℕ, zero, suc, ◌+◌, ◌-◌, ◌*◌, ◌/◌, ◌^◌, ◌<◌, ◌≤◌, Bool, true, false, ◌||◌, List, [], ◌∷◌, length, slice_set, refl, sym, ◌∙◌, ap, ap₂, subst, arith}
use Rattle.std.proofs.lemmas.Bool.{cases_eq, false≢true}
use Rattle.std.proofs.lemmas.Grind.{pow_more}
use Rattle.std.proofs.lemmas.List.{get_or-set_same, get_or-set_other}
use Rattle.std.proofs.Math.Nat.{mul_assoc, mul_comm}
use Rattle.disk_mirror.specs.declared.entry.Ripe.{Ripe}
use Rattle.disk_mirror.specs.Ripe.{none_ripe, joined, is_ripe, ripe_at, AreJoined, IsFirstRipe}

-- all places but this one have what the two below have, and of the leaves only one has changed
pub record IsChanging (old new : List Ripe) (size leaf : ℕ) (ripe : Ripe) (place : ℕ) : Type 0 where
  pub twice : length new ≡ 2 * size
  pub below : place < size
  pub joins : (p : ℕ) → 0 < p → p < size → p ≢ place → ripe_at new p ≡ joined (ripe_at new (2 * p)) (ripe_at new (2 * p + 1))
  pub leaf_is : ripe_at new (size + leaf) ≡ ripe
  pub others : (n : ℕ) → n ≢ leaf → ripe_at new (size + n) ≡ ripe_at old (size + n)

-- a place that is set, and every other one
set_same : (nodes : List Ripe) (p : ℕ) (r : Ripe) → p < length nodes → ripe_at (slice_set nodes p r) p ≡ r
set_same nodes p r low = get_or-set_same nodes p r none_ripe low

set_other : (nodes : List Ripe) (p q : ℕ) (r : Ripe) → q ≢ p → ripe_at (slice_set nodes p r) q ≡ ripe_at nodes q
set_other nodes p q r apart = get_or-set_other nodes p q r none_ripe apart

length-set : (nodes : List Ripe) (p : ℕ) (r : Ripe) → length (slice_set nodes p r) ≡ length nodes
length-set [] p r = refl
length-set (x ∷ nodes) zero r = refl
length-set (x ∷ nodes) (suc p) r = ap suc (length-set nodes p r)

-- the leaf is set
pub change_leaf : (nodes : List Ripe) (size leaf : ℕ) (ripe : Ripe) → length nodes ≡ 2 * size → leaf < size → AreJoined nodes size → IsChanging nodes (slice_set nodes (size + leaf) ripe) size leaf ripe ((size + leaf) / 2)
change_leaf nodes size leaf ripe twice low joins = record {
  twice = length-set nodes (size + leaf) ripe ∙ twice;
  below = omega (arith, low);
  joins = λ p up under apart. set_other nodes (size + leaf) p ripe (λ same. under_leaf p under same)
      ∙ joins p up under
      ∙ sym (ap₂ joined (set_other nodes (size + leaf) (2 * p) ripe (λ same. apart (half_even p same))) (set_other nodes (size + leaf) (2 * p + 1) ripe (λ same. apart (half_odd p same))));
  leaf_is = set_same nodes (size + leaf) ripe (omega (arith, twice, low));
  others = λ n apart. set_other nodes (size + leaf) (size + n) ripe (λ same. apart (omega (arith, same)));
}
  where
    under_leaf : (p : ℕ) → p < size → p ≡ size + leaf → ⊥
    under_leaf p under same = omega (arith, under, same)

    half_even : (p : ℕ) → 2 * p ≡ size + leaf → p ≡ (size + leaf) / 2
    half_even p same = omega (arith, same)

    half_odd : (p : ℕ) → 2 * p + 1 ≡ size + leaf → p ≡ (size + leaf) / 2
    half_odd p same = omega (arith, same)

-- and then the place above it
pub change_up : (old new : List Ripe) (size leaf : ℕ) (ripe : Ripe) (place : ℕ) (v : Ripe) → 0 < place → v ≡ joined (ripe_at new (2 * place)) (ripe_at new (2 * place + 1)) → IsChanging old new size leaf ripe place
    → IsChanging old (slice_set new place v) size leaf ripe (place / 2)
change_up old new size leaf ripe place v some is c = record {
  twice = length-set new place v ∙ c.twice;
  below = omega (arith, c.below);
  joins = λ p up under apart. ⊎_elim (here p) (λ other. elsewhere p up under other apart) (cases_eq p place);
  leaf_is = set_other new place (size + leaf) v (is_leaf leaf) ∙ c.leaf_is;
  others = λ n apart. set_other new place (size + n) v (is_leaf n) ∙ c.others n apart;
}
  where
    is_leaf : (n : ℕ) → size + n ≡ place → ⊥
    is_leaf n same = omega (arith, c.below, same)

    even : (p : ℕ) → 0 < p → 2 * p ≡ p → ⊥
    even p up same = omega (arith, up, same)

    odd : (p : ℕ) → 2 * p + 1 ≡ p → ⊥
    odd p same = omega (arith, same)

    half_even : (p : ℕ) → 2 * p ≡ place → p ≡ place / 2
    half_even p same = omega (arith, same)

    half_odd : (p : ℕ) → 2 * p + 1 ≡ place → p ≡ place / 2
    half_odd p same = omega (arith, same)

    here : (p : ℕ) → p ≡ place → ripe_at (slice_set new place v) p ≡ joined (ripe_at (slice_set new place v) (2 * p)) (ripe_at (slice_set new place v) (2 * p + 1))
    here p same = subst (λ q. ripe_at (slice_set new place v) q ≡ joined (ripe_at (slice_set new place v) (2 * q)) (ripe_at (slice_set new place v) (2 * q + 1))) (sym same)
        (set_same new place v (omega (arith, c.twice, c.below)) ∙ is
        ∙ sym (ap₂ joined (set_other new place (2 * place) v (even place some)) (set_other new place (2 * place + 1) v (odd place))))

    elsewhere : (p : ℕ) → 0 < p → p < size → p ≢ place → p ≢ place / 2 → ripe_at (slice_set new place v) p ≡ joined (ripe_at (slice_set new place v) (2 * p)) (ripe_at (slice_set new place v) (2 * p + 1))
    elsewhere p up under other apart =
        set_other new place p v other ∙ c.joins p up under other
        ∙ sym (ap₂ joined (set_other new place (2 * p) v (λ same. apart (half_even p same))) (set_other new place (2 * p + 1) v (λ same. apart (half_odd p same))))

-- at the root all places have it
pub change_end : (old new : List Ripe) (size leaf : ℕ) (ripe : Ripe) (place : ℕ) → place ≡ 0 → IsChanging old new size leaf ripe place → AreJoined new size
change_end old new size leaf ripe place is c p up under = c.joins p up under (λ same. not_root p up same)
  where
    not_root : (p : ℕ) → 0 < p → p ≡ place → ⊥
    not_root p up same = omega (arith, up, same, is)

-- the second number is the first one, doubled so often
abbrev pub IsDoubled : ℕ → ℕ → ℕ → Type 0
IsDoubled zero a b = a ≡ b
IsDoubled (suc times) a b = IsDoubled times (2 * a) b

doubled_up : (times a b : ℕ) → IsDoubled times a b → a ≤ b
doubled_up zero a b d = omega (arith, d)
doubled_up (suc times) a b d = omega (arith, doubled_up times (2 * a) b d)

doubled_power : (times a b : ℕ) → b ≡ a * 2 ^ times → IsDoubled times a b
doubled_power zero a b is = omega (arith, is)
doubled_power (suc times) a b is =
    let more : 2 ^ suc times ≡ 2 ^ times * 2 = ap (λ k. 2 ^ k) {x = suc times} {y = times + 1} (omega arith) ∙ pow_more 2 times in
    let moved : a * (2 ^ times * 2) ≡ a * 2 ^ times * 2 = sym (mul_assoc a (2 ^ times) 2) in
    doubled_power times (2 * a) b (is ∙ ap (λ k. a * k) more ∙ moved ∙ mul_comm (a * 2 ^ times) 2 ∙ sym (mul_assoc 2 a (2 ^ times)))

-- the place above another one, so many levels up
abbrev pub above : ℕ → ℕ → ℕ
above zero p = p
above (suc times) p = above times p / 2

above_low : (times p : ℕ) → above times p ≤ p
above_low zero p = omega arith
above_low (suc times) p = omega (arith, above_low times p)

above_some : (times level size p : ℕ) → IsDoubled times level size → size ≤ p → level ≤ above times p
above_some zero level size p d low = omega (arith, d, low)
above_some (suc times) level size p d low = omega (arith, above_some times (2 * level) size p d low)

above_most : (times level size p : ℕ) → IsDoubled times level size → p < 2 * size → above times p < 2 * level
above_most zero level size p d under = omega (arith, d, under)
above_most (suc times) level size p d under = omega (arith, above_most times (2 * level) size p d under)

-- two parts have one to be reported where one of them has
ripe_joined : (f s : Bool) (a b : Ripe) → is_ripe f s (joined a b) ≡ (is_ripe f s a || is_ripe f s b)
ripe_joined true true a b = refl
ripe_joined true false a b = refl
ripe_joined false true a b = refl
ripe_joined false false a b = refl

split : (k n : ℕ) → (k < n) ⊎ (n ≤ k)
split k n = grind arith

or_first : (p q : Bool) → (p || q) ≡ false → p ≡ false
or_first true q e = e
or_first false q e = refl

or_second : (p q : Bool) → (p || q) ≡ false → q ≡ false
or_second true q e = absurd (false≢true (sym e))
or_second false q e = e

or_last : (p q : Bool) → (p || q) ≡ true → p ≡ false → q ≡ true
or_last true q e off = absurd (false≢true (sym off))
or_last false q e off = e

-- a place on the way down: it has one, and what is left of it has none
pub record IsOnWay (f s : Bool) (nodes : List Ripe) (size place : ℕ) : Type 0 where
  pub times : ℕ
  pub level : ℕ
  pub doubled : IsDoubled times level size
  pub from : level ≤ place
  pub under : place < 2 * level
  pub before : (i : ℕ) → i < size → above times (size + i) < place → is_ripe f s (ripe_at nodes (size + i)) ≡ false
  pub here : is_ripe f s (ripe_at nodes place) ≡ true

module _ (f s : Bool) (nodes : List Ripe) (size : ℕ) (joins : AreJoined nodes size) where
  -- below a place without one no leaf has one
  none_under : (times p i : ℕ) → 0 < p → i < size → above times (size + i) ≡ p → is_ripe f s (ripe_at nodes p) ≡ false → is_ripe f s (ripe_at nodes (size + i)) ≡ false
  none_under zero p i up low is none = ap (λ q. is_ripe f s (ripe_at nodes q)) is ∙ none
  none_under (suc times) p i up low is none = ⊎_elim
      (λ even. none_under times (2 * p) i (omega (arith, up)) low even (or_first _ _ parts)) (λ odd. none_under times (2 * p + 1) i (omega arith) low odd (or_second _ _ parts)) (either (above times (size + i)) is)
    where
      under : p < size
      under = omega (arith, is, above_low times (size + i), low)

      parts : (is_ripe f s (ripe_at nodes (2 * p)) || is_ripe f s (ripe_at nodes (2 * p + 1))) ≡ false
      parts = sym (ripe_joined f s (ripe_at nodes (2 * p)) (ripe_at nodes (2 * p + 1))) ∙ sym (ap (is_ripe f s) (joins p up under)) ∙ none

      either : (h : ℕ) → h / 2 ≡ p → (h ≡ 2 * p) ⊎ (h ≡ 2 * p + 1)
      either h half = ⊎_elim (λ low. inl (omega (arith, half, low))) (λ high. inr (omega (arith, half, high))) (split h (2 * p + 1))

  -- the root
  pub way_root : (times : ℕ) → size ≡ 2 ^ times → is_ripe f s (ripe_at nodes 1) ≡ true → IsOnWay f s nodes size 1
  way_root times power here = record {
    times = times;
    level = 1;
    doubled = d;
    from = omega arith;
    under = omega arith;
    before = λ i low less. absurd (none i less);
    here = here;
  }
    where
      d : IsDoubled times 1 size
      d = doubled_power times 1 size (omega (arith, power))

      none : (i : ℕ) → above times (size + i) < 1 → ⊥
      none i less = omega (arith, less, above_some times 1 size (size + i) d (omega arith))

  -- down to the first of the two places below
  pub way_left : (place : ℕ) → place < size → is_ripe f s (ripe_at nodes (2 * place)) ≡ true → IsOnWay f s nodes size place → IsOnWay f s nodes size (2 * place)
  way_left place within here w = down w.times w.level w.doubled w.from w.under w.before
    where
      down : (times level : ℕ) → IsDoubled times level size → level ≤ place → place < 2 * level → ((i : ℕ) → i < size → above times (size + i) < place → is_ripe f s (ripe_at nodes (size + i)) ≡ false) → IsOnWay f s nodes size (2 * place)
      down zero level d from under before = absurd (past level d from)
        where
          past : (level : ℕ) → level ≡ size → level ≤ place → ⊥
          past level d from = omega (arith, d, from, within)
      down (suc times) level d from under before = record {
        times = times;
        level = 2 * level;
        doubled = d;
        from = omega (arith, from);
        under = omega (arith, under);
        before = λ i low less. before i low (omega (arith, less));
        here = here;
      }

  -- down to the second one
  pub way_right : (place : ℕ) → place < size → is_ripe f s (ripe_at nodes (2 * place)) ≡ false → IsOnWay f s nodes size place → IsOnWay f s nodes size (2 * place + 1)
  way_right place within none w = down w.times w.level w.doubled w.from w.under w.before
    where
      some : 0 < place
      some = omega (arith, w.from, w.under)

      right : is_ripe f s (ripe_at nodes (2 * place + 1)) ≡ true
      right = or_last _ _ (sym (ripe_joined f s (ripe_at nodes (2 * place)) (ripe_at nodes (2 * place + 1))) ∙ sym (ap (is_ripe f s) (joins place some within)) ∙ w.here) none

      down : (times level : ℕ) → IsDoubled times level size → level ≤ place → place < 2 * level → ((i : ℕ) → i < size → above times (size + i) < place → is_ripe f s (ripe_at nodes (size + i)) ≡ false) → IsOnWay f s nodes size (2 * place + 1)
      down zero level d from under before = absurd (past level d from)
        where
          past : (level : ℕ) → level ≡ size → level ≤ place → ⊥
          past level d from = omega (arith, d, from, within)
      down (suc times) level d from under before = record {
        times = times;
        level = 2 * level;
        doubled = d;
        from = omega (arith, from);
        under = omega (arith, under);
        before = λ i low less. ⊎_elim (λ left. before i low (omega (arith, left))) (λ own. none_under times (2 * place) i (omega (arith, some)) low (omega (arith, less, own)) none) (split (above times (size + i)) (2 * place));
        here = right;
      }

  -- at the end of the way
  pub way_end : (place : ℕ) → size ≤ place → IsOnWay f s nodes size place → IsFirstRipe f s nodes size (place - size)
  way_end place past w = at w.times w.level w.doubled w.under w.before
    where
      leaf_is : size + (place - size) ≡ place
      leaf_is = omega (arith, past)

      at : (times level : ℕ) → IsDoubled times level size → place < 2 * level → ((i : ℕ) → i < size → above times (size + i) < place → is_ripe f s (ripe_at nodes (size + i)) ≡ false) → IsFirstRipe f s nodes size (place - size)
      at zero level d under before = record {
        within = omega (arith, d, under, past);
        here = ap (λ q. is_ripe f s (ripe_at nodes q)) leaf_is ∙ w.here;
        before = λ i less. before i (omega (arith, d, under, past, less)) (omega (arith, past, less));
      }
      at (suc times) level d under before = absurd (low (doubled_up times (2 * level) size d))
        where
          low : 2 * level ≤ size → ⊥
          low all = omega (arith, all, under, past)

  -- a root without one has no leaf with one
  pub none_at_all : (times : ℕ) → size ≡ 2 ^ times → is_ripe f s (ripe_at nodes 1) ≡ false → (i : ℕ) → i < size → is_ripe f s (ripe_at nodes (size + i)) ≡ false
  none_at_all times power none i low = none_under times 1 i (omega arith) low top none
    where
      d : IsDoubled times 1 size
      d = doubled_power times 1 size (omega (arith, power))

      top : above times (size + i) ≡ 1
      top = omega (arith, above_some times 1 size (size + i) d (omega arith), above_most times 1 size (size + i) d (omega (arith, low)))
