-- What becomes of the set as a ticket is noticed. The first note of a ticket decides.
use Rattle.std.proofs.Common.{◌≡◌, ℕ, zero, suc, ◌==◌, ◌<◌, ◌&&◌, ◌||◌, Bool, true, false, if◌then◌else◌, List, [], ◌∷◌, length, take, map, slice_get, slice_set, slice_index_or, Some, refl, sym, ◌∙◌, ap, arith}
use Rattle.std.proofs.lemmas.Bool.Decides.{nat_tests}
use Rattle.std.proofs.lemmas.Bool.{eq-eqb, cond-true, cond-false}
use Rattle.engine_notes.specs.declared.notes.Note.{Note}
use Rattle.engine_notes.specs.Notes.{ticket_of, is_expected, is_noticed}

-- the marked note
abbrev pub marked : ℕ → Note
marked t = record { ticket = t; noticed = true }

pub expected_set : (t u : ℕ) (ns : List Note) (at : ℕ) → ((n : Note) → slice_get ns at ≡ Some n → n.ticket ≡ t) → is_expected u (slice_set ns at (marked t)) ≡ is_expected u ns
expected_set t u [] at own = refl
expected_set t u (n ∷ ns) zero own = ap (λ k. if k == u then true else is_expected u ns) (sym (own n refl))
expected_set t u (n ∷ ns) (suc at) own = ap (λ b. if n.ticket == u then true else b) (expected_set t u ns at own)

pub tickets_set : (t : ℕ) (ns : List Note) (at : ℕ) → ((n : Note) → slice_get ns at ≡ Some n → n.ticket ≡ t) → map ticket_of (slice_set ns at (marked t)) ≡ map ticket_of ns
tickets_set t [] at own = refl
tickets_set t (n ∷ ns) zero own = ap (λ k. k ∷ map ticket_of ns) (sym (own n refl))
tickets_set t (n ∷ ns) (suc at) own = ap (λ ts. n.ticket ∷ ts) (tickets_set t ns at own)

-- a ticket that isn't expected by a list isn't that of its first note, nor by the rest
other_first : (t k : ℕ) (rest : Bool) → (if k == t then true else rest) ≡ false → (k == t) ≡ false
other_first t k rest e = grind (arith, nat_tests)

other_rest : (t k : ℕ) (rest : Bool) → (if k == t then true else rest) ≡ false → rest ≡ false
other_rest t k rest e = grind (arith, nat_tests)

-- two numbers that are both u are equal
apart : (k t u : ℕ) → (k == t) ≡ false → (k == u) ≡ true → (t == u) ≡ false
apart k t u other own = grind (arith, nat_tests)

pub noticed_set : (t u : ℕ) (ns : List Note) (at : ℕ) → at < length ns → is_expected t (take at ns) ≡ false → ((n : Note) → slice_get ns at ≡ Some n → n.ticket ≡ t)
    → is_noticed u (slice_set ns at (marked t)) ≡ (is_noticed u ns || (t == u && is_expected u ns))
noticed_set t u [] at lt none own = absurd (below at lt)
  where
    below : (k : ℕ) → k < 0 → ⊥
    below k lt = omega (arith, lt)
noticed_set t u (n ∷ ns) zero lt none own = ap (λ k. if t == u then true else is_noticed u ns) (own n refl) ∙ by (t == u) ∙ ap (λ k. (if k == u then n.noticed else is_noticed u ns) || (t == u && (if k == u then true else is_expected u ns))) (sym (own n refl))
  where
    by : (v : Bool) → (if v then true else is_noticed u ns) ≡ ((if v then n.noticed else is_noticed u ns) || (v && (if v then true else is_expected u ns)))
    by true = both n.noticed
      where
        both : (m : Bool) → true ≡ (m || true)
        both true = refl
        both false = refl
    by false = none_more (is_noticed u ns)
      where
        none_more : (m : Bool) → m ≡ (m || false)
        none_more true = refl
        none_more false = refl
noticed_set t u (n ∷ ns) (suc at) lt none own = by (n.ticket == u) refl (noticed_set t u ns at (omega (arith, lt)) (other_rest t n.ticket (is_expected t (take at ns)) none) own)
  where
    by : (v : Bool) → (n.ticket == u) ≡ v → is_noticed u (slice_set ns at (marked t)) ≡ (is_noticed u ns || (t == u && is_expected u ns))
        → (if v then n.noticed else is_noticed u (slice_set ns at (marked t))) ≡ ((if v then n.noticed else is_noticed u ns) || (t == u && (if v then true else is_expected u ns)))
    by true same rest = here n.noticed (t == u) (apart n.ticket t u (other_first t n.ticket (is_expected t (take at ns)) none) same)
      where
        here : (m w : Bool) → w ≡ false → m ≡ (m || (w && true))
        here true w e = refl
        here false w e = sym (ap (λ b. b && true) e)
    by false other rest = rest

-- a ticket that a place of the list has is expected, and the place of its first note tells its mark
pub expected_at : (t : ℕ) (ns : List Note) (at : ℕ) → at < length ns → ((n : Note) → slice_get ns at ≡ Some n → n.ticket ≡ t) → is_expected t ns ≡ true
expected_at t [] at lt own = grind (arith, nat_tests)
expected_at t (n ∷ ns) zero lt own = cond-true (n.ticket == t) true (is_expected t ns) (eq-eqb n.ticket t (own n refl))
expected_at t (n ∷ ns) (suc at) lt own = grind (arith, nat_tests, expected_at t ns at (omega (arith, lt)) own)

pub mark_at : (t : ℕ) (ns : List Note) (at : ℕ) (d : Note) → at < length ns → is_expected t (take at ns) ≡ false → ((n : Note) → slice_get ns at ≡ Some n → n.ticket ≡ t) → (slice_index_or ns at d).noticed ≡ is_noticed t ns
mark_at t [] at d lt none own = grind (arith, nat_tests)
mark_at t (n ∷ ns) zero d lt none own = sym (cond-true (n.ticket == t) n.noticed (is_noticed t ns) (eq-eqb n.ticket t (own n refl)))
mark_at t (n ∷ ns) (suc at) d lt none own = mark_at t ns at d (omega (arith, lt)) (other_rest t n.ticket (is_expected t (take at ns)) none) own ∙ sym (cond-false (n.ticket == t) n.noticed (is_noticed t ns) (other_first t n.ticket (is_expected t (take at ns)) none))

pub unmarked : (t : ℕ) (ns : List Note) → is_expected t ns ≡ false → false ≡ is_noticed t ns
unmarked t [] none = refl
unmarked t (n ∷ ns) none = unmarked t ns (other_rest t n.ticket (is_expected t ns) none) ∙ sym (cond-false (n.ticket == t) n.noticed (is_noticed t ns) (other_first t n.ticket (is_expected t ns) none))
