-- Tickets that leave the notes give their room back, also where the pending header's is among them.
use Rattle.std.proofs.Common.{◌≡◌, ℕ, suc, ◌+◌, ◌≤◌, ◌==◌, not, Bool, true, false, if◌then◌else◌, List, [], ◌∷◌, length, map, Option, Some, None, refl, sym, ◌∙◌, ap, arith}
use Rattle.std.proofs.lemmas.Bool.Decides.{nat_tests}
use Rattle.std.proofs.lemmas.Bool.{and_parts, eqb-true, false≢true}
use Rattle.std.proofs.lemmas.List.{length-map}
use Rattle.engine_notes.specs.declared.notes.Note.{Note}
use Rattle.engine_notes.specs.Notes.{Expected, ticket_of, is_expected, is_among, are_rising}
use Rattle.engine_running.specs.States.{Forgets}
use Rattle.engine_checkpoint.specs.declared.pipeline.Pending.{Pending}
use Rattle.engine_checkpoint.specs.declared.pipeline.Pipeline.{Pipeline}
use Rattle.engine_checkpoint.specs.Order.{header_notes}

-- the tickets without this one
abbrev others : ℕ → List ℕ → List ℕ
others u [] = []
others u (t ∷ ts) = if t == u then ts else t ∷ others u ts

one_fewer : (u : ℕ) (ts : List ℕ) → is_among u ts ≡ true → length ts ≡ suc (length (others u ts))
one_fewer u [] e = absurd (false≢true e)
one_fewer u (t ∷ ts) e = grind (arith, nat_tests, one_fewer u ts)

others_stay : (u w : ℕ) (ts : List ℕ) → (u == w) ≡ false → is_among w ts ≡ true → is_among w (others u ts) ≡ true
others_stay u w [] other e = e
others_stay u w (t ∷ ts) other e = grind (arith, nat_tests, others_stay u w ts other)

-- what is expected is among the tickets of the notes
among_notes : (u : ℕ) (ns : List Note) → is_among u (map ticket_of ns) ≡ is_expected u ns
among_notes u [] = refl
among_notes u (n ∷ ns) = ap (λ (v : Bool). if n.ticket == u then true else v) (among_notes u ns)

module _ (v : Pipeline) (gone : List ℕ) (ns : Expected) (forgets : Forgets gone v.notes ns) (rising : are_rising ns.notes ≡ true)
    (few : (ns : List Note) (ts : List ℕ) → are_rising ns ≡ true → ((u : ℕ) → is_expected u ns ≡ true → is_among u ts ≡ true) → length ns ≤ length ts) where
  abbrev now : Pipeline
  now = record v { notes = ns }

  was : (u : ℕ) → is_expected u ns.notes ≡ true → is_expected u v.notes.notes ≡ true
  was u e = (and_parts (not (is_among u gone)) (is_expected u v.notes.notes) (sym (forgets.expected u) ∙ e)).1

  no_more : length ns.notes ≤ length v.notes.notes
  no_more = omega (arith, few ns.notes (map ticket_of v.notes.notes) rising (λ u e. among_notes u v.notes.notes ∙ was u e), length-map v.notes.notes ticket_of)

  -- where one was dropped there is room for it
  fewer : (t : ℕ) → is_expected t v.notes.notes ≡ true → is_expected t ns.notes ≡ false → length ns.notes + 1 ≤ length v.notes.notes
  fewer t old new = omega (
    arith,
    few ns.notes (others t (map ticket_of v.notes.notes)) rising (λ u e. others_stay t u (map ticket_of v.notes.notes) (apart u e) (among_notes u v.notes.notes ∙ was u e)),
    one_fewer t (map ticket_of v.notes.notes) (among_notes t v.notes.notes ∙ old),
    length-map v.notes.notes ticket_of,
  )
    where
      apart : (u : ℕ) → is_expected u ns.notes ≡ true → (t == u) ≡ false
      apart u e = by (t == u) refl
        where
          by : (b : Bool) → (t == u) ≡ b → b ≡ false
          by true same = absurd (false≢true (sym new ∙ ap (λ n. is_expected n ns.notes) (eqb-true t u same) ∙ e))
          by false same = refl

  none_pending : v.next ≡ None → v.notes.room + header_notes v ≤ ns.room + header_notes now
  none_pending e = omega (arith, no_more, forgets.room, ap (λ (n : Option Pending). header_notes (record v { next = n })) e, ap (λ (n : Option Pending). header_notes (record now { next = n })) e)

  one_pending : (q : Pending) → v.next ≡ Some q → v.notes.room + header_notes v ≤ ns.room + header_notes now
  one_pending q e = by (is_expected q.ticket v.notes.notes) refl (is_expected q.ticket ns.notes) refl
    where
      old_is : header_notes v ≡ (if is_expected q.ticket v.notes.notes then 1 else 0)
      old_is = ap (λ (n : Option Pending). header_notes (record v { next = n })) e

      new_is : header_notes now ≡ (if is_expected q.ticket ns.notes then 1 else 0)
      new_is = ap (λ (n : Option Pending). header_notes (record now { next = n })) e

      by : (x : Bool) → is_expected q.ticket v.notes.notes ≡ x → (y : Bool) → is_expected q.ticket ns.notes ≡ y → v.notes.room + header_notes v ≤ ns.room + header_notes now
      by true f true g = omega (arith, no_more, forgets.room, old_is ∙ ap (λ b. if b then 1 else 0) f, new_is ∙ ap (λ b. if b then 1 else 0) g)
      by true f false g = omega (arith, fewer q.ticket f g, forgets.room, old_is ∙ ap (λ b. if b then 1 else 0) f, new_is ∙ ap (λ b. if b then 1 else 0) g)
      by false f true g = absurd (false≢true (sym f ∙ was q.ticket g))
      by false f false g = omega (arith, no_more, forgets.room, old_is ∙ ap (λ b. if b then 1 else 0) f, new_is ∙ ap (λ b. if b then 1 else 0) g)

  -- what the notes have room for, with the pending header's note, has not become less
  pub room_back : v.notes.room + header_notes v ≤ ns.room + header_notes now
  room_back = grind (arith, nat_tests, none_pending, one_pending)

-- where more is expected the pending header's note is there still
pub header_note_stays : (v : Pipeline) (ns : Expected) → ((u : ℕ) → is_expected u v.notes.notes ≡ true → is_expected u ns.notes ≡ true) → header_notes v ≤ header_notes (record v { notes = ns })
header_note_stays v ns more = grind (arith, nat_tests)
