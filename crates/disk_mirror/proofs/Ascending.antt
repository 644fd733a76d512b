-- Where a ticket stands among rows in which the tickets of a disk ascend.
use Rattle.std.proofs.Common.{◌≡◌, ◌⊎◌, ⊎_elim, ℕ, zero, suc, ◌+◌, ◌<◌, ◌≤◌, nat_lt, Bool, true, false, List, [], ◌∷◌, length, get_or, Option, Some, None, option_map, refl, sym, ◌∙◌, ap, subst, arith}
use Rattle.std.proofs.lemmas.Bool.{false≢true}
use Rattle.std.proofs.lemmas.Bool.Decides.{nat_tests}
use Rattle.std.proofs.lemmas.List.{get_or_past}
use Rattle.disk_contract.specs.Cell.{is_ticket}
use Rattle.disk_mirror.specs.declared.entry.Side.{Side}
use Rattle.disk_mirror.specs.declared.entry.Side.TheVariants.{First, Second}
use Rattle.disk_mirror.specs.declared.entry.Pair.{Pair}
use Rattle.disk_mirror.specs.Twin.{on, no_pair, is_less, ticket_on, AreAscending}

-- a lesser ticket than a lesser one is a lesser one
less_more : (a b c : Option ℕ) → is_less a b ≡ true → is_less b c ≡ true → is_less a c ≡ true
less_more None b c p q = absurd (false≢true p)
less_more (Some t) None c p q = absurd (false≢true p)
less_more (Some t) (Some u) None p q = absurd (false≢true q)
less_more (Some t) (Some u) (Some v) p q = grind (arith, nat_tests, p, q)

less_self : (a : Option ℕ) → is_less a a ≡ true → ⊥
less_self None p = false≢true p
less_self (Some t) p = low t p
  where
    low : (t : ℕ) → nat_lt t t ≡ true → ⊥
    low t p = grind (arith, nat_tests, p)

false_of : (v : Bool) → (v ≡ true → ⊥) → v ≡ false
false_of true h = absurd (h refl)
false_of false h = refl

-- the tickets before `low` are less, and those from `high` on aren't
pub record IsBetween (side : Side) (pairs : List Pair) (ticket low high : ℕ) : Type 0 where
  pub order : low ≤ high
  pub within : high ≤ length pairs
  pub before : AreAscending side pairs → (i : ℕ) → i < low → is_less (on side (get_or pairs i no_pair)) (Some ticket) ≡ true
  pub behind : AreAscending side pairs → (i : ℕ) → high ≤ i → i < length pairs → is_less (on side (get_or pairs i no_pair)) (Some ticket) ≡ false

-- the one in the middle is less
pub between_more : (side : Side) (pairs : List Pair) (ticket low high middle : ℕ) → low ≤ middle → middle < high → is_less (on side (get_or pairs middle no_pair)) (Some ticket) ≡ true → IsBetween side pairs ticket low high → IsBetween side pairs ticket (middle + 1) high
between_more side pairs ticket low high middle from under less b = record {
  order = omega (arith, under);
  within = b.within;
  before = λ up i below. ⊎_elim (λ same. ap (λ k. is_less (on side (get_or pairs k no_pair)) (Some ticket)) same ∙ less)
      (λ earlier. less_more (on side (get_or pairs i no_pair)) (on side (get_or pairs middle no_pair)) (Some ticket) (up i middle earlier (omega (arith, under, b.within))) less) (parted i below);
  behind = b.behind;
}
  where
    parted : (i : ℕ) → i < middle + 1 → (i ≡ middle) ⊎ (i < middle)
    parted i below = grind (arith, below)

-- it isn't
pub between_less : (side : Side) (pairs : List Pair) (ticket low high middle : ℕ) → low ≤ middle → middle < high → is_less (on side (get_or pairs middle no_pair)) (Some ticket) ≡ false → IsBetween side pairs ticket low high → IsBetween side pairs ticket low middle
between_less side pairs ticket low high middle from under more b = record {
  order = from;
  within = omega (arith, under, b.within);
  before = b.before;
  behind = λ up i past within. ⊎_elim (λ same. ap (λ k. is_less (on side (get_or pairs k no_pair)) (Some ticket)) same ∙ more)
      (λ later. false_of _ (λ less. false≢true (sym more ∙ less_more (on side (get_or pairs middle no_pair)) (on side (get_or pairs i no_pair)) (Some ticket) (up middle i later within) less))) (parted i past);
}
  where
    parted : (i : ℕ) → middle ≤ i → (i ≡ middle) ⊎ (middle < i)
    parted i past = grind (arith, past)

on_none : (side : Side) → on side no_pair ≡ None
on_none First = refl
on_none Second = refl

-- a row with the ticket stands where the search ended
pub place_is : (side : Side) (pairs : List Pair) (ticket at i : ℕ) → at ≤ length pairs → ((j : ℕ) → j < at → is_less (on side (get_or pairs j no_pair)) (Some ticket) ≡ true) → ((j : ℕ) → at ≤ j → j < length pairs → is_less (on side (get_or pairs j no_pair)) (Some ticket) ≡ false)
    → AreAscending side pairs → on side (get_or pairs i no_pair) ≡ Some ticket → (at ≡ i) × (at < length pairs)
place_is side pairs ticket at i within before behind up own = ⊎_elim (λ low. absurd (early low)) (λ rest. ⊎_elim (λ same. (same, omega (arith, same, there))) (λ late. absurd (later late)) rest) (parted i at)
  where
    parted : (i at : ℕ) → (i < at) ⊎ ((at ≡ i) ⊎ (at < i))
    parted i at = grind arith

    some_none : (t : ℕ) → None ≡ Some t → ⊥
    some_none t e = cc

    split : (i n : ℕ) → (i < n) ⊎ (n ≤ i)
    split i n = grind arith

    there : i < length pairs
    there = ⊎_elim (λ low. low) (λ past. absurd (some_none ticket (sym (ap (on side) (get_or_past pairs i no_pair past) ∙ on_none side) ∙ own))) (split i (length pairs))

    early : i < at → ⊥
    early low = less_self (Some ticket) (subst (λ o. is_less o (Some ticket) ≡ true) own (before i low))

    later : at < i → ⊥
    later late = false≢true (sym (behind at (omega arith) (omega (arith, late, there))) ∙ subst (λ o. is_less (on side (get_or pairs at no_pair)) o ≡ true) own (up at i late there))

-- what stands at a place where the ticket is
pub ticket_is : (o : Option ℕ) (t : ℕ) → is_ticket t o ≡ true → o ≡ Some t
ticket_is None t e = absurd (false≢true e)
ticket_is (Some u) t e = ap (λ v. Some v) (same u t e)
  where
    same : (u t : ℕ) → is_ticket t (Some u) ≡ true → u ≡ t
    same u t e = grind (arith, nat_tests, e)

pub is_ticket_of : (o : Option ℕ) (t : ℕ) → o ≡ Some t → is_ticket t o ≡ true
is_ticket_of o t e = ap (is_ticket t) e ∙ self t
  where
    self : (t : ℕ) → is_ticket t (Some t) ≡ true
    self t = grind (arith, nat_tests)

-- what the search says, where no row, one row, or another row stands where it ended
module _ (side : Side) (pairs : List Pair) (ticket at : ℕ) (within : at ≤ length pairs) (before : AreAscending side pairs → (j : ℕ) → j < at → is_less (on side (get_or pairs j no_pair)) (Some ticket) ≡ true)
    (behind : AreAscending side pairs → (j : ℕ) → at ≤ j → j < length pairs → is_less (on side (get_or pairs j no_pair)) (Some ticket) ≡ false) where
  pub past_end : at ≡ length pairs → AreAscending side pairs → (i : ℕ) → on side (get_or pairs i no_pair) ≡ Some ticket → None ≡ Some i
  past_end end up i own = absurd (low (place_is side pairs ticket at i within (before up) (behind up) up own).1)
    where
      low : at < length pairs → ⊥
      low less = omega (arith, end, less)

  pub at_place : AreAscending side pairs → (i : ℕ) → on side (get_or pairs i no_pair) ≡ Some ticket → Some at ≡ Some i
  at_place up i own = ap (λ k. Some k) (place_is side pairs ticket at i within (before up) (behind up) up own).0

  pub not_there : is_ticket ticket (on side (get_or pairs at no_pair)) ≡ false → AreAscending side pairs → (i : ℕ) → on side (get_or pairs i no_pair) ≡ Some ticket → None ≡ Some i
  not_there other up i own =
      let same = (place_is side pairs ticket at i within (before up) (behind up) up own).0 in
      absurd (false≢true (sym other ∙ is_ticket_of (on side (get_or pairs at no_pair)) ticket (ap (λ k. on side (get_or pairs k no_pair)) same ∙ own)))

-- the mirror's ticket of a place is one more
pub ticket_at : (side : Side) (pairs : List Pair) (at t : ℕ) → at < length pairs → on side (get_or pairs at no_pair) ≡ Some t → (0 < at + 1) × (at + 1 ≤ length pairs) × (ticket_on side pairs (Some (at + 1)) ≡ Some t)
ticket_at side pairs at t low own = (omega arith, omega (arith, low), subst (λ k. ticket_on side pairs (Some k) ≡ Some t) {x = suc at} {y = at + 1} (omega arith) own)

pub ticket_of : (side : Side) (pairs : List Pair) (t : ℕ) (r : Option ℕ) → ((i : ℕ) → on side (get_or pairs i no_pair) ≡ Some t → r ≡ Some i) → (i : ℕ) → ticket_on side pairs (Some i) ≡ Some t → option_map (λ (k : ℕ). k + 1) r ≡ Some i
ticket_of side pairs t r all zero own = absurd (none_some (sym (on_none side) ∙ own))
  where
    none_some : None ≡ Some t → ⊥
    none_some e = cc
ticket_of side pairs t r all (suc i) own = ap (option_map (λ (k : ℕ). k + 1)) (all i own) ∙ ap (λ (k : ℕ). Some k) {x = i + 1} {y = suc i} (omega arith)
