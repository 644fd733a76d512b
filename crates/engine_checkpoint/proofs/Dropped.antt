-- Tickets are dropped from the notes: what was dropped gives its room back, the pending header's note among it.
use Rattle.std.proofs.Common.{◌≡◌, ℕ, ◌+◌, ◌≤◌, ◌==◌, Bool, true, false, if◌then◌else◌, List, [], ◌∷◌, length, map, Option, Some, None, refl, sym, ◌∙◌, ap, arith}
use Rattle.std.proofs.lemmas.Bool.Decides.{nat_tests}
use Rattle.std.proofs.lemmas.List.{length-map}
use Rattle.std.proofs.lemmas.Bool.{false≢true, cond-true, cond-false}
use Rattle.engine_notes.specs.declared.notes.Note.{Note}
use Rattle.engine_notes.specs.Notes.{Expected, is_expected, is_among, are_rising, ticket_of}
use Rattle.engine_checkpoint.specs.declared.pipeline.Pending.{Pending}
use Rattle.engine_checkpoint.specs.Order.{pending_notes}

-- notes of few tickets are few, as the law has it
abbrev pub AreFew : Type 0
AreFew = (ns : List Note) (ts : List ℕ) → are_rising ns ≡ true → ((u : ℕ) → is_expected u ns ≡ true → is_among u ts ≡ true) → length ns ≤ length ts

expected_among : (ns : List Note) (u : ℕ) → is_expected u ns ≡ true → is_among u (map ticket_of ns) ≡ true
expected_among [] u e = absurd (false≢true e)
expected_among (n ∷ ns) u e = grind (arith, nat_tests, expected_among ns u)

-- the tickets but this one
abbrev without : ℕ → List ℕ → List ℕ
without t [] = []
without t (u ∷ us) = if u == t then without t us else u ∷ without t us

without_less : (t : ℕ) (us : List ℕ) → length (without t us) ≤ length us
without_less t [] = omega arith
without_less t (u ∷ us) = grind (arith, nat_tests, without_less t us)

without_one : (t : ℕ) (us : List ℕ) → is_among t us ≡ true → length (without t us) + 1 ≤ length us
without_one t [] e = absurd (false≢true e)
without_one t (u ∷ us) e = grind (arith, nat_tests, without_less, without_one t us)

stays_among : (t u : ℕ) (us : List ℕ) → (t ≡ u → ⊥) → is_among u us ≡ true → is_among u (without t us) ≡ true
stays_among t u [] ne e = e
stays_among t u (w ∷ us) ne e = grind (arith, nat_tests, stays_among t u us ne)

-- notes that have left nothing new are no more
pub no_more_notes : AreFew → (old new : List Note) → are_rising new ≡ true → ((u : ℕ) → is_expected u new ≡ true → is_expected u old ≡ true) → length new ≤ length old
no_more_notes few old new rising within = omega (arith, few new (map ticket_of old) rising (λ u e. expected_among old u (within u e)), length-map old ticket_of)

-- and where a ticket has left they are fewer
pub fewer_notes : AreFew → (old new : List Note) (t : ℕ) → are_rising new ≡ true → ((u : ℕ) → is_expected u new ≡ true → is_expected u old ≡ true) → is_expected t old ≡ true → is_expected t new ≡ false → length new + 1 ≤ length old
fewer_notes few old new t rising within was gone = omega (
  arith,
  few new (without t (map ticket_of old)) rising (λ u e. stays_among t u (map ticket_of old) (λ same. false≢true (sym gone ∙ ap (λ v. is_expected v new) same ∙ e)) (expected_among old u (within u e))),
  without_one t (map ticket_of old) (expected_among old t was),
  length-map old ticket_of,
)

-- how many notes a ticket has
abbrev pub notes_of : ℕ → List Note → ℕ
notes_of t ns = if is_expected t ns then 1 else 0

note_there : (t : ℕ) (ns : List Note) → is_expected t ns ≡ true → notes_of t ns ≡ 1
note_there t ns e = cond-true (is_expected t ns) 1 0 e

no_note : (t : ℕ) (ns : List Note) → is_expected t ns ≡ false → notes_of t ns ≡ 0
no_note t ns e = cond-false (is_expected t ns) 1 0 e

-- what leaves gives its room back, so that the room and the note of one ticket are together no less
pub room_and_note : AreFew → (old new : Expected) (t : ℕ) → are_rising new.notes ≡ true → ((u : ℕ) → is_expected u new.notes ≡ true → is_expected u old.notes ≡ true) → length new.notes + new.room ≡ length old.notes + old.room
    → old.room + notes_of t old.notes ≤ new.room + notes_of t new.notes
room_and_note few old new t rising within together = by (is_expected t old.notes) refl (is_expected t new.notes) refl
  where
    by : (v : Bool) → is_expected t old.notes ≡ v → (w : Bool) → is_expected t new.notes ≡ w → old.room + notes_of t old.notes ≤ new.room + notes_of t new.notes
    by false none w now = omega (arith, no_more_notes few old.notes new.notes rising within, together, no_note t old.notes none)
    by true was true now = omega (arith, no_more_notes few old.notes new.notes rising within, together, note_there t old.notes was, note_there t new.notes now)
    by true was false gone = omega (arith, fewer_notes few old.notes new.notes t rising within was gone, together, note_there t old.notes was)

-- and the room alone is no less
pub room_alone : AreFew → (old new : Expected) → are_rising new.notes ≡ true → ((u : ℕ) → is_expected u new.notes ≡ true → is_expected u old.notes ≡ true) → length new.notes + new.room ≡ length old.notes + old.room → old.room ≤ new.room
room_alone few old new rising within together = omega (arith, no_more_notes few old.notes new.notes rising within, together)

-- the same of the note of the pending header, where there is one
pub room_of_header : AreFew → (next : Option Pending) (old new : Expected) → are_rising new.notes ≡ true → ((u : ℕ) → is_expected u new.notes ≡ true → is_expected u old.notes ≡ true) → length new.notes + new.room ≡ length old.notes + old.room
    → old.room + pending_notes next old.notes ≤ new.room + pending_notes next new.notes
room_of_header few None old new rising within together = omega (arith, room_alone few old new rising within together)
room_of_header few (Some q) old new rising within together = room_and_note few old new q.ticket rising within together
