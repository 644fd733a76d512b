-- The rows of a log with one more event.
use Rattle.std.proofs.Common.{◌≡◌, ℕ, ◌+◌, ◌≤◌, if◌then◌else◌, List, [], ◌∷◌, ◌++◌, length, Result, Ok, is_ok, refl, ap, ◌∙◌, arith}
use Rattle.std.proofs.lemmas.Bool.{cond-true}
use Rattle.disk_contract.specs.declared.event.Event.{Event}
use Rattle.disk_contract.specs.declared.event.Event.TheVariants.{Wrote, Lost, Noticed}
use Rattle.disk_memory.specs.Log.{tickets, write_count, writes_in, accepted_places, lost_places}
use Rattle.disk_memory.proofs.log_rows.Events.{write_count-append}

-- the places of the accepted writes in two lists of events: those of the second begin where the first ends
pub accepted_places-append : (p : ℕ) (log more : List Event) → accepted_places p (log ++ more) ≡ accepted_places p log ++ accepted_places (p + length log) more
accepted_places-append p [] more = ap (λ q. accepted_places q more) (omega arith)
accepted_places-append p (Wrote t b x ∷ log) more = ap (λ (ps : List ℕ). p ∷ ps) (accepted_places-append (p + 1) log more ∙ ap (λ q. accepted_places (p + 1) log ++ accepted_places q more) (omega arith))
accepted_places-append p (Lost b x ∷ log) more = accepted_places-append (p + 1) log more ∙ ap (λ q. accepted_places (p + 1) log ++ accepted_places q more) (omega arith)
accepted_places-append p (Noticed t ∷ log) more = accepted_places-append (p + 1) log more ∙ ap (λ q. accepted_places (p + 1) log ++ accepted_places q more) (omega arith)

-- and so are those of the lost writes
pub lost_places-append : (p : ℕ) (log more : List Event) → lost_places p (log ++ more) ≡ lost_places p log ++ lost_places (p + length log) more
lost_places-append p [] more = ap (λ q. lost_places q more) (omega arith)
lost_places-append p (Wrote t b x ∷ log) more = lost_places-append (p + 1) log more ∙ ap (λ q. lost_places (p + 1) log ++ lost_places q more) (omega arith)
lost_places-append p (Lost b x ∷ log) more = ap (λ (ps : List ℕ). p ∷ ps) (lost_places-append (p + 1) log more ∙ ap (λ q. lost_places (p + 1) log ++ lost_places q more) (omega arith))
lost_places-append p (Noticed t ∷ log) more = lost_places-append (p + 1) log more ∙ ap (λ q. lost_places (p + 1) log ++ lost_places q more) (omega arith)

-- one more event is so many more writes
pub write_count_of_more : (log : List Event) (e : Event) → write_count (log ++ e ∷ []) ≡ write_count log + writes_in e
write_count_of_more log (Wrote t b x) = write_count-append log (Wrote t b x ∷ [])
write_count_of_more log (Lost b x) = write_count-append log (Lost b x ∷ [])
write_count_of_more log (Noticed t) = write_count-append log (Noticed t ∷ [])

-- each accepted write has its place, and each that was lost
pub places_count : (p : ℕ) (log : List Event) → (length (accepted_places p log) ≡ length (tickets log)) × (length (accepted_places p log) + length (lost_places p log) ≡ write_count log)
places_count p [] = (refl, refl)
places_count p (Wrote t b x ∷ log) = let rest = places_count (p + 1) log in (omega (arith, rest.0), omega (arith, rest.1))
places_count p (Lost b x ∷ log) = let rest = places_count (p + 1) log in (rest.0, omega (arith, rest.1))
places_count p (Noticed t ∷ log) = places_count (p + 1) log

-- what a push leaves that went well
pub pushed : {T E X : Type 0} (r : Result T E) (value : T) (new more old : X) → r ≡ Ok value → new ≡ (if is_ok r then more else old) → new ≡ more
pushed r value new more old well is = is ∙ cond-true (is_ok r) more old (ap is_ok well)

-- the writes up to an event of a log are some of all
pub writes_up_to : (log rest : List Event) (e : Event) → write_count log + writes_in e ≤ write_count (log ++ e ∷ rest)
writes_up_to log rest e = omega (arith, write_count-append log (e ∷ rest), at_least e)
  where
    at_least : (e : Event) → writes_in e ≤ write_count (e ∷ rest)
    at_least (Wrote t b x) = omega arith
    at_least (Lost b x) = omega arith
    at_least (Noticed t) = omega arith
