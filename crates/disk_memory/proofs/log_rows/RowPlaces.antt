-- The rows of places: where the writes of a log stand, and what names they have there.
use Rattle.std.proofs.Common.{◌≡◌, ℕ, zero, suc, ◌+◌, ◌-◌, ◌<◌, ◌≤◌, false, List, [], ◌∷◌, length, get_or, Option, Some, None, refl, sym, ◌∙◌, ap, arith}
use Rattle.std.proofs.lemmas.Bool.{both_ways}
use Rattle.std.proofs.lemmas.Option.{none-some, same_Some, slice_get_within, slice_get_read, slice_get-get_or}
use Rattle.std.specs.Prelude.{IfSome, IfNone}
use Rattle.std.specs.List.{slice_get}
use Rattle.disk_contract.specs.declared.event.Event.{Event}
use Rattle.disk_contract.specs.declared.event.Event.TheVariants.{Wrote, Lost, Noticed}
use Rattle.disk_contract.specs.Cell.{is_accepted}
use Rattle.disk_memory.specs.declared.choice.WriteName.TheVariants as names
use Rattle.disk_memory.specs.Log.{tickets, write_count, accepted_places, lost_places}
use Rattle.disk_memory.specs.Settled.{name_from, name_at}
use Rattle.disk_memory.proofs.log_rows.AddRows.{places_count}
use Rattle.disk_memory.proofs.log_rows.Events.{accepted_there}
use Rattle.disk_memory.proofs.crash_images.FateBehind.{name_there}

-- so the accepted ones are no more than all
pub tickets_few : (es : List Event) → length (tickets es) ≤ write_count es
tickets_few es = omega (arith, (places_count 0 es).0, (places_count 0 es).1)

-- at a place of the row of accepted writes stands the write of that ticket
accepted_named_from : (n p : ℕ) (es : List Event) (i q t : ℕ) → slice_get (accepted_places p es) i ≡ Some q → slice_get (tickets es) i ≡ Some t → (p ≤ q) × (name_from n es (q - p) ≡ Some (names.Accepted t))
accepted_named_from n p [] i q t at is = absurd (none-some q at)
accepted_named_from n p (Wrote u b x ∷ es) zero q t at is =
    let here : p ≡ q = same_Some p q at in
    let own : u ≡ t = same_Some u t is in
    (omega arith, ap (name_from n (Wrote u b x ∷ es)) {x = q - p} {y = zero} (omega arith) ∙ ap (λ (k : ℕ). Some (names.Accepted k)) own)
accepted_named_from n p (Wrote u b x ∷ es) (suc i) q t at is =
    let rest = accepted_named_from n (p + 1) es i q t at is in
    (omega arith, ap (name_from n (Wrote u b x ∷ es)) {x = q - p} {y = suc (q - (p + 1))} (omega arith) ∙ rest.1)
accepted_named_from n p (Lost b x ∷ es) i q t at is =
    let rest = accepted_named_from (n + 1) (p + 1) es i q t at is in
    (omega arith, ap (name_from n (Lost b x ∷ es)) {x = q - p} {y = suc (q - (p + 1))} (omega arith) ∙ rest.1)
accepted_named_from n p (Noticed u ∷ es) i q t at is =
    let rest = accepted_named_from n (p + 1) es i q t at is in
    (omega arith, ap (name_from n (Noticed u ∷ es)) {x = q - p} {y = suc (q - (p + 1))} (omega arith) ∙ rest.1)

-- the same of the whole log
pub accepted_named : (log : List Event) (i q t : ℕ) → slice_get (accepted_places 0 log) i ≡ Some q → slice_get (tickets log) i ≡ Some t → name_at log q ≡ Some (names.Accepted t)
accepted_named log i q t at is = ap (name_from 0 log) {x = q} {y = q - 0} (omega arith) ∙ (accepted_named_from 0 0 log i q t at is).1

-- at a place of the row of lost writes stands the lost write of that number
lost_named_from : (n p : ℕ) (es : List Event) (i q : ℕ) → slice_get (lost_places p es) i ≡ Some q → (p ≤ q) × (name_from n es (q - p) ≡ Some (names.Lost (n + i + 1)))
lost_named_from n p [] i q at = absurd (none-some q at)
lost_named_from n p (Lost b x ∷ es) zero q at =
    let here : p ≡ q = same_Some p q at in
    (omega arith, ap (name_from n (Lost b x ∷ es)) {x = q - p} {y = zero} (omega arith) ∙ ap (λ (k : ℕ). Some (names.Lost k)) {x = n + 1} {y = n + zero + 1} (omega arith))
lost_named_from n p (Lost b x ∷ es) (suc i) q at =
    let rest = lost_named_from (n + 1) (p + 1) es i q at in
    (omega arith, ap (name_from n (Lost b x ∷ es)) {x = q - p} {y = suc (q - (p + 1))} (omega arith) ∙ rest.1 ∙ ap (λ (k : ℕ). Some (names.Lost k)) {x = n + 1 + i + 1} {y = n + suc i + 1} (omega arith))
lost_named_from n p (Wrote u b x ∷ es) i q at =
    let rest = lost_named_from n (p + 1) es i q at in
    (omega arith, ap (name_from n (Wrote u b x ∷ es)) {x = q - p} {y = suc (q - (p + 1))} (omega arith) ∙ rest.1)
lost_named_from n p (Noticed u ∷ es) i q at =
    let rest = lost_named_from n (p + 1) es i q at in
    (omega arith, ap (name_from n (Noticed u ∷ es)) {x = q - p} {y = suc (q - (p + 1))} (omega arith) ∙ rest.1)

-- the same of the whole log
pub lost_named : (log : List Event) (i q : ℕ) → slice_get (lost_places 0 log) i ≡ Some q → name_at log q ≡ Some (names.Lost (i + 1))
lost_named log i q at = ap (name_from 0 log) {x = q} {y = q - 0} (omega arith) ∙ (lost_named_from 0 0 log i q at).1 ∙ ap (λ (k : ℕ). Some (names.Lost k)) {x = 0 + i + 1} {y = i + 1} (omega arith)

-- the number of a lost write that stands somewhere is one of those that the row has
pub lost_found_from : (n p : ℕ) (es : List Event) (q k : ℕ) → name_from n es q ≡ Some (names.Lost k) → (n < k) × (k ≤ n + length (lost_places p es))
lost_found_from n p [] q k e = absurd (none-some (names.Lost k) e)
lost_found_from n p (Lost b x ∷ es) zero k e = let own : n + 1 ≡ k = cc in (omega arith, omega arith)
lost_found_from n p (Wrote u b x ∷ es) zero k e = absurd cc
lost_found_from n p (Noticed u ∷ es) zero k e = absurd cc
lost_found_from n p (Lost b x ∷ es) (suc q) k e = let rest = lost_found_from (n + 1) (p + 1) es q k e in (omega arith, omega arith)
lost_found_from n p (Wrote u b x ∷ es) (suc q) k e = lost_found_from n (p + 1) es q k e
lost_found_from n p (Noticed u ∷ es) (suc q) k e = lost_found_from n (p + 1) es q k e

-- the same of the whole log
pub lost_found : (log : List Event) (q k : ℕ) → name_at log q ≡ Some (names.Lost k) → (0 < k) × (k ≤ length (lost_places 0 log))
lost_found log q k e = let rest = lost_found_from 0 0 log q k e in (omega arith, omega arith)

-- what is read at a place of the row of accepted writes
pub accepted_read : (log : List Event) (places : List ℕ) (i q t : ℕ) → places ≡ accepted_places 0 log → slice_get (tickets log) i ≡ Some t → q ≡ get_or places i q → name_at log q ≡ Some (names.Accepted t)
accepted_read log places i q t are is read =
    let within = slice_get_within (tickets log) i t is in
    accepted_named log i q t (sym (ap (λ (l : List ℕ). slice_get l i) are) ∙ slice_get_read places (length places) i q refl (omega (arith, (places_count 0 log).0, ap length are)) read) is

-- the place is there
pub accepted_within : (log : List Event) (places : List ℕ) (i t : ℕ) → places ≡ accepted_places 0 log → slice_get (tickets log) i ≡ Some t → i < length places
accepted_within log places i t are is =
    let within = slice_get_within (tickets log) i t is in
    omega (arith, (places_count 0 log).0, ap length are)

-- a ticket that no write has names none
pub accepted_nowhere : (log : List Event) (t q : ℕ) → is_accepted t log ≡ false → name_at log q ≡ Some (names.Accepted t) → ⊥
accepted_nowhere log t q none e =
    let there = name_there 0 log q t e in
    both_ways (is_accepted t log) none (accepted_there log q t there.0 there.1 there.2)

-- what the row of lost writes says of a number
pub lost_there : (log : List Event) (lost : List ℕ) (k : ℕ) (r : Option ℕ) → lost ≡ lost_places 0 log → 0 < k → r ≡ slice_get lost (k - 1) → IfSome r (λ q. name_at log q ≡ Some (names.Lost k))
lost_there log lost k (Some q) are above is =
    lost_named log (k - 1) q (sym (ap (λ (l : List ℕ). slice_get l (k - 1)) are) ∙ sym is) ∙ ap (λ (n : ℕ). Some (names.Lost n)) {x = k - 1 + 1} {y = k} (omega arith)
lost_there log lost k None are above is = tt

-- and where it says nothing, no write has that number
pub lost_nowhere : (log : List Event) (lost : List ℕ) (k : ℕ) (r : Option ℕ) → lost ≡ lost_places 0 log → 0 < k → r ≡ slice_get lost (k - 1) → IfNone r ((q : ℕ) → name_at log q ≡ Some (names.Lost k) → ⊥)
lost_nowhere log lost k (Some q) are above is = tt
lost_nowhere log lost k None are above is = λ q e.
    let found = lost_found log q k e in
    none-some (get_or lost (k - 1) 0) (is ∙ slice_get-get_or lost (k - 1) 0 (omega (arith, found.1, ap length are)))
