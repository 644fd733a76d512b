-- The log of a mirror as the logs of its disks grow.
use Rattle.std.proofs.Common.{◌≡◌, ℕ, ◌<◌, ◌==◌, ◌&&◌, Bool, true, false, if◌then◌else◌, is_some, List, [], ◌∷◌, ◌++◌, length, Option, Some, None, refl, ◌∙◌, ap, ap₂, arith}
use Rattle.std.proofs.lemmas.Bool.{eq-eqb, false≢true, and_parts}
use Rattle.disk_contract.specs.declared.event.Event.{Event}
use Rattle.disk_contract.specs.declared.event.Event.TheVariants.{Wrote, Lost, Noticed}
use Rattle.disk_contract.specs.Cell.{greatest_ticket}
use Rattle.std.proofs.lemmas.Bool.{cond-true, cond-false}
use Rattle.disk_mirror.specs.declared.entry.Entry.{Entry}
use Rattle.disk_mirror.specs.declared.entry.Entry.TheVariants.{Accepted, Failed, Reported}
use Rattle.disk_mirror.specs.Order.{Put, put_with, put_at, event_with, event_of, log_of, is_found, are_found}

and_of : (p q : Bool) → p ≡ true → q ≡ true → (p && q) ≡ true
and_of true q e f = f
and_of false q e f = absurd (false≢true e)

-- a write that is there stays what it is
pub put_more : (t : ℕ) (xs ys : List Event) → is_some (put_with t xs) ≡ true → put_with t (xs ++ ys) ≡ put_with t xs
put_more t [] ys e = absurd (false≢true e)
put_more t (Wrote u b x ∷ xs) ys e =
    elim (u == t) as (λ v. is_some (if v then Some (record { block = b; bytes = x }) else put_with t xs) ≡ true → (if v then Some (record { block = b; bytes = x }) else put_with t (xs ++ ys)) ≡ (if v then Some (record { block = b; bytes = x }) else put_with t xs))
    [ true ↦ λ _. refl | false ↦ λ s. put_more t xs ys s ] e
put_more t (Lost b x ∷ xs) ys e = put_more t xs ys e
put_more t (Noticed u ∷ xs) ys e = put_more t xs ys e

-- a new write is found
pub put_new : (t b : ℕ) (x : List ℕ) (xs : List Event) → greatest_ticket xs < t → put_with t (xs ++ Wrote t b x ∷ []) ≡ Some (record { block = b; bytes = x })
put_new t b x [] low = cond-true (t == t) _ _ (eq-eqb t t refl)
put_new t b x (Wrote u c y ∷ xs) low = cond-false (u == t) _ _ other ∙ put_new t b x xs (omega (arith, low))
  where
    other : (u == t) ≡ false
    other = grind (arith, low)
put_new t b x (Lost c y ∷ xs) low = put_new t b x xs low
put_new t b x (Noticed u ∷ xs) low = put_new t b x xs low

-- the events that are found stay what they are
put_at_more : (first second : Option ℕ) (a b c d : List Event) → is_some (put_at first second a b) ≡ true → put_at first second (a ++ c) (b ++ d) ≡ put_at first second a b
put_at_more (Some t) second a b c d e = put_more t a c e
put_at_more None (Some t) a b c d e = put_more t b d e
put_at_more None None a b c d e = absurd (false≢true e)

event_more : (e : Entry) (a b c d : List Event) → is_found a b e ≡ true → event_of (a ++ c) (b ++ d) e ≡ event_of a b e
event_more (Accepted t first second) a b c d f = ap (λ p. event_with p (Accepted t first second)) (put_at_more first second a b c d f)
event_more (Failed side) a b c d f = absurd (false≢true f)
event_more (Reported t) a b c d f = refl

found_more : (e : Entry) (a b c d : List Event) → is_found a b e ≡ true → is_found (a ++ c) (b ++ d) e ≡ true
found_more (Accepted t first second) a b c d f = ap (λ (p : Option Put). is_some p) (put_at_more first second a b c d f) ∙ f
found_more (Failed side) a b c d f = absurd (false≢true f)
found_more (Reported t) a b c d f = refl

pub log_more : (es : List Entry) (a b c d : List Event) → are_found a b es ≡ true → log_of (a ++ c) (b ++ d) es ≡ log_of a b es
log_more [] a b c d f = refl
log_more (e ∷ es) a b c d f = let p = and_parts _ _ f in ap₂ (λ (x : Event) (l : List Event). x ∷ l) (event_more e a b c d p.0) (log_more es a b c d p.1)

pub all_found_more : (es : List Entry) (a b c d : List Event) → are_found a b es ≡ true → are_found (a ++ c) (b ++ d) es ≡ true
all_found_more [] a b c d f = refl
all_found_more (e ∷ es) a b c d f = let p = and_parts _ _ f in and_of _ _ (found_more e a b c d p.0) (all_found_more es a b c d p.1)

-- one more event
pub log_snoc : (es : List Entry) (e : Entry) (a b : List Event) → log_of a b (es ++ e ∷ []) ≡ log_of a b es ++ event_of a b e ∷ []
log_snoc [] e a b = refl
log_snoc (x ∷ es) e a b = ap (λ (l : List Event). event_of a b x ∷ l) (log_snoc es e a b)

pub found_snoc : (es : List Entry) (e : Entry) (a b : List Event) → are_found a b es ≡ true → is_found a b e ≡ true → are_found a b (es ++ e ∷ []) ≡ true
found_snoc [] e a b f g = and_of _ _ g refl
found_snoc (x ∷ es) e a b f g = let p = and_parts _ _ f in and_of _ _ p.0 (found_snoc es e a b p.1 g)

pub length-log : (es : List Entry) (a b : List Event) → length (log_of a b es) ≡ length es
length-log [] a b = refl
length-log (e ∷ es) a b = omega (arith, length-log es a b)
