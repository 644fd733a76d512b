-- Notes whose tickets ascend are no more than a list that has all these tickets.
use Rattle.std.proofs.Common.{◌≡◌, ℕ, suc, ◌≤◌, ◌==◌, true, false, if◌then◌else◌, List, [], ◌∷◌, length, refl, arith}
use Rattle.std.proofs.lemmas.Bool.Decides.{nat_tests}
use Rattle.std.proofs.lemmas.Bool.{eq-eqb, false≢true, cond-true}
use Rattle.engine_notes.specs.declared.notes.Note.{Note}
use Rattle.engine_notes.specs.Notes.{is_expected, is_among, are_rising}
use Rattle.engine_notes.proofs.Rising.{rises, not_above}

-- the list without the first of these
abbrev without : ℕ → List ℕ → List ℕ
without u [] = []
without u (t ∷ ts) = if t == u then ts else t ∷ without u ts

one_less : (u : ℕ) (ts : List ℕ) → is_among u ts ≡ true → length ts ≡ suc (length (without u ts))
one_less u [] e = absurd (false≢true e)
one_less u (t ∷ ts) e = grind (arith, nat_tests, one_less u ts)

others_stay : (u w : ℕ) (ts : List ℕ) → (u == w) ≡ false → is_among w ts ≡ true → is_among w (without u ts) ≡ true
others_stay u w [] other e = e
others_stay u w (t ∷ ts) other e = grind (arith, nat_tests, others_stay u w ts other)

-- the first ticket isn't that of a later note
first_alone : (n : Note) (ns : List Note) → are_rising (n ∷ ns) ≡ true → (u : ℕ) → is_expected u ns ≡ true → (n.ticket == u) ≡ false
first_alone n ns up u e = grind (arith, nat_tests, not_above)

later_expected : (n : Note) (ns : List Note) (u : ℕ) → is_expected u ns ≡ true → is_expected u (n ∷ ns) ≡ true
later_expected n ns u e = grind (arith, nat_tests)

pub no_more : (ns : List Note) (ts : List ℕ) → are_rising ns ≡ true → ((u : ℕ) → is_expected u ns ≡ true → is_among u ts ≡ true) → length ns ≤ length ts
no_more [] ts up within = omega arith
no_more (n ∷ ns) ts up within = omega (
  arith,
  one_less n.ticket ts (within n.ticket (cond-true (n.ticket == n.ticket) true (is_expected n.ticket ns) (eq-eqb n.ticket n.ticket refl))),
  no_more ns (without n.ticket ts) (rises n.ticket ns up) (λ u e. others_stay n.ticket u ts (first_alone n ns up u e) (within u (later_expected n ns u e))),
)
