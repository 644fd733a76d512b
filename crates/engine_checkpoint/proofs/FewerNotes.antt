-- A ticket that leaves the notes gives its note's room back, where it had one.
use Rattle.std.proofs.Common.{◌≡◌, ℕ, ◌+◌, ◌≤◌, ◌==◌, not, Bool, true, false, if◌then◌else◌, List, [], ◌∷◌, length, map, refl, sym, ◌∙◌, ap, arith}
use Rattle.std.proofs.lemmas.Bool.Decides.{nat_tests}
use Rattle.std.proofs.lemmas.Bool.{and_parts, eqb-true, eq-eqb, false≢true}
use Rattle.std.proofs.lemmas.List.{length-map}
use Rattle.engine_notes.specs.declared.notes.Note.{Note}
use Rattle.engine_notes.specs.Notes.{Expected, ticket_of, is_expected, is_among, are_rising, without_ticket}
use Rattle.engine_running.specs.States.{Forgets}

-- how many others there are
others_count : (t : ℕ) (ns : List Note) → length (without_ticket t ns) + (if is_expected t ns then 1 else 0) ≡ length ns
others_count t [] = refl
others_count t (n ∷ ns) = grind (arith, nat_tests, others_count t ns)

-- another ticket is among theirs
others_among : (t u : ℕ) (ns : List Note) → (t == u) ≡ false → is_expected u ns ≡ true → is_among u (map ticket_of (without_ticket t ns)) ≡ true
others_among t u [] other e = e
others_among t u (n ∷ ns) other e = by (n.ticket == t) refl (n.ticket == u) refl (others_among t u ns other)
  where
    all : (ms : List Note) → is_expected u ms ≡ true → is_among u (map ticket_of ms) ≡ true
    all [] f = f
    all (m ∷ ms) f = pick (m.ticket == u) f (all ms)
      where
        pick : (v : Bool) → (if v then true else is_expected u ms) ≡ true → (is_expected u ms ≡ true → is_among u (map ticket_of ms) ≡ true) → (if v then true else is_among u (map ticket_of ms)) ≡ true
        pick true g rest = refl
        pick false g rest = rest g

    by : (v : Bool) → (n.ticket == t) ≡ v → (w : Bool) → (n.ticket == u) ≡ w → (is_expected u ns ≡ true → is_among u (map ticket_of (without_ticket t ns)) ≡ true) → is_among u (map ticket_of (if n.ticket == t then ns else n ∷ without_ticket t ns)) ≡ true
    by true f true g rest = absurd (false≢true (sym other ∙ eq-eqb t u (sym (eqb-true n.ticket t f) ∙ eqb-true n.ticket u g)))
    by true f false g rest = ap (λ b. is_among u (map ticket_of (if b then ns else n ∷ without_ticket t ns))) f ∙ all ns (sym (ap (λ b. if b then true else is_expected u ns) g) ∙ e)
    by false f true g rest = ap (λ b. is_among u (map ticket_of (if b then ns else n ∷ without_ticket t ns))) f ∙ ap (λ b. if b then true else is_among u (map ticket_of (without_ticket t ns))) g
    by false f false g rest = ap (λ b. is_among u (map ticket_of (if b then ns else n ∷ without_ticket t ns))) f ∙ ap (λ b. if b then true else is_among u (map ticket_of (without_ticket t ns))) g ∙ rest (sym (ap (λ b. if b then true else is_expected u ns) g) ∙ e)

module _ (few : (ns : List Note) (ts : List ℕ) → are_rising ns ≡ true → ((u : ℕ) → is_expected u ns ≡ true → is_among u ts ≡ true) → length ns ≤ length ts) where
  pub room_back : (t : ℕ) (old new : Expected) → are_rising new.notes ≡ true → Forgets (t ∷ []) old new → old.room + (if is_expected t old.notes then 1 else 0) ≤ new.room
  room_back t old new rising gone = omega (arith, few new.notes (map ticket_of (without_ticket t old.notes)) rising among, length-map (without_ticket t old.notes) ticket_of, others_count t old.notes, gone.room)
    where
      among : (u : ℕ) → is_expected u new.notes ≡ true → is_among u (map ticket_of (without_ticket t old.notes)) ≡ true
      among u e = let p = and_parts (not (is_among u (t ∷ []))) (is_expected u old.notes) (sym (gone.expected u) ∙ e) in others_among t u old.notes (other (t == u) p.0) p.1
        where
          other : (v : Bool) → not (if v then true else false) ≡ true → v ≡ false
          other true f = absurd (false≢true f)
          other false f = refl
