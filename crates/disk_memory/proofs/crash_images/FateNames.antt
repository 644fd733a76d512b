-- The names of a log's writes: each is the name of one place, and a front of the log has the same.
use Rattle.std.proofs.Common.{◌≡◌, ℕ, zero, suc, ◌+◌, ◌<◌, List, [], ◌∷◌, ◌++◌, length, take, Some, refl, sym, ◌∙◌, ap, arith, length-take}
use Rattle.std.proofs.lemmas.Option.{none-some}
use Rattle.disk_contract.specs.declared.event.Event.{Event}
use Rattle.disk_contract.specs.declared.event.Event.TheVariants.{Wrote, Lost, Noticed}
use Rattle.disk_contract.specs.Lawful.{AreLawfulAfter, IsLawful}
use Rattle.disk_memory.specs.declared.choice.WriteName.{WriteName}
use Rattle.disk_memory.specs.declared.choice.WriteName.TheVariants as names
use Rattle.disk_memory.specs.Settled.{name_from, name_at}
use Rattle.disk_memory.proofs.settled_places.SettledWrites.{place_above}
use Rattle.disk_memory.proofs.log_rows.Events.{greatest_behind}
use Rattle.disk_memory.proofs.crash_images.FateBehind.{name_there}
use Rattle.disk_memory.proofs.log_rows.RowPlaces.{lost_found_from}

-- a name is that of a place of the log
pub name_within : (lost : ℕ) (es : List Event) (p : ℕ) (name : WriteName) → name_from lost es p ≡ Some name → p < length es
name_within lost [] p name h = absurd (none-some name h)
name_within lost (Wrote t b x ∷ es) zero name h = omega arith
name_within lost (Lost b x ∷ es) zero name h = omega arith
name_within lost (Noticed t ∷ es) zero name h = omega arith
name_within lost (Wrote t b x ∷ es) (suc p) name h = omega (arith, name_within lost es p name h)
name_within lost (Lost b x ∷ es) (suc p) name h = omega (arith, name_within (lost + 1) es p name h)
name_within lost (Noticed t ∷ es) (suc p) name h = omega (arith, name_within lost es p name h)

-- a front of the log has the names of its places
pub name_front : (lost k : ℕ) (es : List Event) (p : ℕ) → p < k → name_from lost (take k es) p ≡ name_from lost es p
name_front lost zero es p h = absurd (omega arith)
name_front lost (suc k) [] p h = refl
name_front lost (suc k) (Wrote t b x ∷ es) zero h = refl
name_front lost (suc k) (Lost b x ∷ es) zero h = refl
name_front lost (suc k) (Noticed t ∷ es) zero h = refl
name_front lost (suc k) (Wrote t b x ∷ es) (suc p) h = name_front lost k es p (omega arith)
name_front lost (suc k) (Lost b x ∷ es) (suc p) h = name_front (lost + 1) k es p (omega arith)
name_front lost (suc k) (Noticed t ∷ es) (suc p) h = name_front lost k es p (omega arith)

-- a name of a front is one of the log, at the same place
pub name_of_front : (k : ℕ) (log : List Event) (p : ℕ) (name : WriteName) → name_at (take k log) p ≡ Some name → name_at log p ≡ Some name
name_of_front k log p name h = sym (name_front 0 k log p (omega (arith, name_within 0 (take k log) p name h, length-take k log))) ∙ h

-- no later write has the ticket of an accepted one
not_again : (before es : List Event) (lost p t b : ℕ) (x : List ℕ) → AreLawfulAfter (before ++ Wrote t b x ∷ []) es → name_from lost es p ≡ Some (names.Accepted t) → ⊥
not_again before es lost p t b x lawful h =
    let there = name_there lost es p t h in
    omega (arith, greatest_behind before (Wrote t b x ∷ []), place_above (before ++ Wrote t b x ∷ []) es p t there.0 there.1 lawful there.2)

-- a name is that of one place alone
one_place : (before es : List Event) (lost p q : ℕ) (name : WriteName) → AreLawfulAfter before es → name_from lost es p ≡ Some name → name_from lost es q ≡ Some name → p ≡ q
one_place before [] lost p q name lawful h k = absurd (none-some name h)
one_place before (Wrote t b x ∷ es) lost zero zero name lawful h k = refl
one_place before (Wrote t b x ∷ es) lost zero (suc q) name lawful h k = absurd (not_again before es lost q t b x lawful.1 (k ∙ sym h))
one_place before (Wrote t b x ∷ es) lost (suc p) zero name lawful h k = absurd (not_again before es lost p t b x lawful.1 (h ∙ sym k))
one_place before (Wrote t b x ∷ es) lost (suc p) (suc q) name lawful h k = ap suc (one_place (before ++ Wrote t b x ∷ []) es lost p q name lawful.1 h k)
one_place before (Lost b x ∷ es) lost zero zero name lawful h k = refl
one_place before (Lost b x ∷ es) lost zero (suc q) name lawful h k = absurd (omega (arith, (lost_found_from (lost + 1) 0 es q (lost + 1) (k ∙ sym h)).0))
one_place before (Lost b x ∷ es) lost (suc p) zero name lawful h k = absurd (omega (arith, (lost_found_from (lost + 1) 0 es p (lost + 1) (h ∙ sym k)).0))
one_place before (Lost b x ∷ es) lost (suc p) (suc q) name lawful h k = ap suc (one_place (before ++ Lost b x ∷ []) es (lost + 1) p q name lawful.1 h k)
one_place before (Noticed t ∷ es) lost zero q name lawful h k = absurd (none-some name h)
one_place before (Noticed t ∷ es) lost (suc p) zero name lawful h k = absurd (none-some name k)
one_place before (Noticed t ∷ es) lost (suc p) (suc q) name lawful h k = ap suc (one_place (before ++ Noticed t ∷ []) es lost p q name lawful.1 h k)

-- so it is in a lawful log
pub same_place : (log : List Event) (p q : ℕ) (name : WriteName) → IsLawful log → name_at log p ≡ Some name → name_at log q ≡ Some name → p ≡ q
same_place log p q name lawful h k = one_place [] log 0 p q name lawful h k
