-- The places that a ring hands out were free, and are taken then; places that were taken stay so.
use Rattle.std.proofs.Common.{◌≡◌, ℕ, ◌+◌, ◌-◌, ◌%◌, ◌<◌, ◌≤◌, ◌⊎◌, inl, inr, sym, ap, ◌∙◌, arith}
use Rattle.std.proofs.lemmas.Bool.{cases_lt}
use Rattle.std.proofs.Math.Nat.{add-mod-mod, add-mod_right, mod-eq_of_lt}
use Rattle.layout_journal.specs.Ring.{RingPlaces, with_places, without_places, place_ahead, IsTaken}

-- a number counted around may be counted around before
around : (a b j : ℕ) → (a % j + b) % j ≡ (a + b) % j
around a b j = ap (λ x. x % j) {x = a % j + b} {y = b + a % j} (omega arith) ∙ add-mod-mod b a j ∙ ap (λ x. x % j) {x = b + a} {y = a + b} (omega arith)

-- less than once around, no place comes again
no_turn : (n d j : ℕ) → n < j → 0 < d → d < j → (n + d) % j ≡ n → ⊥
no_turn n d j within some short same = by (cases_lt (n + d) j)
  where
    by : ((n + d < j) ⊎ (j ≤ n + d)) → ⊥
    by (inl low) = omega (arith, same, mod-eq_of_lt low, some)
    by (inr high) =
        let low : n + d - j < j = omega (arith, within, short) in
        let once : n + d - j + j ≡ n + d = omega (arith, high) in
        omega (arith, same, ap (λ x. x % j) (sym once) ∙ add-mod_right (n + d - j) j ∙ mod-eq_of_lt low, short, within, high)

-- a place that is ahead is none of the taken ones
pub handed_free : (r : RingPlaces) (places k : ℕ) → r.next < r.geom.j → r.taken + places ≤ r.geom.j → k < places → IsTaken r (place_ahead r k) → ⊥
handed_free r places k within room below taken =
    no_turn r.next (k + 1 + taken.0) r.geom.j within (omega arith) (omega (arith, taken.1, room, below))
    (ap (λ x. x % r.geom.j) {x = r.next + (k + 1 + taken.0)} {y = r.next + k + (1 + taken.0)} (omega arith)
    ∙ sym (around (r.next + k) (1 + taken.0) r.geom.j)
    ∙ ap (λ x. x % r.geom.j) {x = (r.next + k) % r.geom.j + (1 + taken.0)} {y = (r.next + k) % r.geom.j + 1 + taken.0} (omega arith)
    ∙ taken.2)

-- and is one of them once so many are taken
pub handed_taken : (r : RingPlaces) (places k : ℕ) → k < places → IsTaken (with_places r places) (place_ahead r k)
handed_taken r places k below = (
  places - 1 - k,
  omega (arith, below),
  ap (λ x. x % r.geom.j) {x = (r.next + k) % r.geom.j + 1 + (places - 1 - k)} {y = (r.next + k) % r.geom.j + (places - k)} (omega (arith, below))
      ∙ around (r.next + k) (places - k) r.geom.j
      ∙ ap (λ x. x % r.geom.j) {x = r.next + k + (places - k)} {y = r.next + places} (omega (arith, below)),
)

-- as those that were taken are still
pub still_taken : (r : RingPlaces) (places q : ℕ) → IsTaken r q → IsTaken (with_places r places) q
still_taken r places q taken = (
  taken.0 + places,
  omega (arith, taken.1),
  ap (λ x. x % r.geom.j) {x = q + 1 + (taken.0 + places)} {y = q + 1 + taken.0 + places} (omega arith)
      ∙ sym (around (q + 1 + taken.0) places r.geom.j) ∙ ap (λ x. (x + places) % r.geom.j) taken.2,
)

-- giving places back takes none
pub none_comes : (r : RingPlaces) (places q : ℕ) → IsTaken (without_places r places) q → IsTaken r q
none_comes r places q taken = (taken.0, omega (arith, taken.1), taken.2)
