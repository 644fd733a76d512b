-- Notes whose tickets ascend: what a search finds among them, and how they are with a ticket more or less.
use Rattle.std.proofs.Common.{◌≡◌, ◌≢◌, ⊎_elim, ℕ, zero, suc, ◌+◌, ◌<◌, ◌≤◌, ◌==◌, ◌&&◌, ◌||◌, nat_lt, not, Bool, true, false, if◌then◌else◌, List, [], ◌∷◌, length, take, slice_get, slice_set, slice_index_or, insert, remove, Some, refl, sym, ◌∙◌, ap, subst, arith}
use Rattle.std.proofs.lemmas.Bool.Decides.{nat_tests}
use Rattle.std.proofs.lemmas.Bool.{cases_eq, eq-eqb, ltb-true, ltb-false, lt-ltb, le-ltb, and_parts, and_from, cond-true, cond-false, ne_eqb}
use Rattle.std.proofs.lemmas.Option.{same_Some, none-some, slice_get-get_or}
use Rattle.std.specs.List.Sorted.{IsPartitionedBy}
use Rattle.engine_notes.specs.declared.notes.Note.{Note}
use Rattle.engine_notes.specs.Notes.{is_expected, is_noticed, is_among, are_above, are_rising, with_ticket, without_ticket}
use Rattle.engine_notes.proofs.Marks.{marked}

-- the parts of an ascent
head_above : (s : ℕ) (n : Note) (ns : List Note) → are_above s (n ∷ ns) ≡ true → s < n.ticket
head_above s n ns up = ltb-true s n.ticket (and_parts (nat_lt s n.ticket) (are_above n.ticket ns) up).0

rest_above : (s : ℕ) (n : Note) (ns : List Note) → are_above s (n ∷ ns) ≡ true → are_above n.ticket ns ≡ true
rest_above s n ns up = (and_parts (nat_lt s n.ticket) (are_above n.ticket ns) up).1

above_cons : (s : ℕ) (n : Note) (ns : List Note) → s < n.ticket → are_above n.ticket ns ≡ true → are_above s (n ∷ ns) ≡ true
above_cons s n ns lt up = and_from (nat_lt s n.ticket) (are_above n.ticket ns) (lt-ltb s n.ticket lt) up

lower : (r s : ℕ) (ns : List Note) → r ≤ s → are_above s ns ≡ true → are_above r ns ≡ true
lower r s [] le up = refl
lower r s (n ∷ ns) le up = above_cons r n ns (omega (arith, le, head_above s n ns up)) (rest_above s n ns up)

pub rises : (s : ℕ) (ns : List Note) → are_above s ns ≡ true → are_rising ns ≡ true
rises s [] up = refl
rises s (n ∷ ns) up = rest_above s n ns up

-- each ticket of a list above s is above it
pub member_above : (s : ℕ) (ns : List Note) → are_above s ns ≡ true → (k : ℕ) (n : Note) → slice_get ns k ≡ Some n → s < n.ticket
member_above s [] up k n is = absurd (none-some n is)
member_above s (m ∷ ms) up zero n is = subst (λ (q : Note). s < q.ticket) (same_Some _ _ is) (head_above s m ms up)
member_above s (m ∷ ms) up (suc k) n is = omega (arith, head_above s m ms up, member_above m.ticket ms (rest_above s m ms up) k n is)

ordered : (ns : List Note) → are_rising ns ≡ true → (i k : ℕ) (m n : Note) → i < k → slice_get ns i ≡ Some m → slice_get ns k ≡ Some n → m.ticket < n.ticket
ordered [] up i k m n lt is at = absurd (none-some m is)
ordered (q ∷ qs) up i zero m n lt is at = absurd (omega arith)
ordered (q ∷ qs) up zero (suc k) m n lt is at = subst (λ (r : Note). r.ticket < n.ticket) (same_Some _ _ is) (member_above q.ticket qs up k n at)
ordered (q ∷ qs) up (suc i) (suc k) m n lt is at = ordered qs (rises q.ticket qs up) i k m n (omega arith) is at

-- the lower ones come first
pub parted : (ns : List Note) (t : ℕ) → are_rising ns ≡ true → IsPartitionedBy (λ (n : Note). nat_lt n.ticket t) ns
parted ns t up i j d le lt low = ⊎_elim (λ e. subst (λ k. nat_lt (slice_index_or ns k d).ticket t ≡ true) (sym e) low)
    (λ ne. lt-ltb _ _ (omega (arith, ltb-true _ _ low, ordered ns up i j (slice_index_or ns i d) (slice_index_or ns j d) (omega (arith, le, ne)) (slice_get-get_or ns i d (omega arith)) (slice_get-get_or ns j d lt)))) (cases_eq i j)

-- all before this place are of lower tickets, and all from it on aren't
abbrev pub Below : List Note → ℕ → ℕ → Type 0
Below ns at t = (k : ℕ) (n : Note) → slice_get ns k ≡ Some n → k < at → n.ticket < t

abbrev pub From : List Note → ℕ → ℕ → Type 0
From ns at t = (k : ℕ) (n : Note) → slice_get ns k ≡ Some n → at ≤ k → t ≤ n.ticket

less : (a b : ℕ) → a < b → a ≡ b → ⊥
less a b lt e = omega (arith, lt, e)

-- a ticket that is at or below s isn't in a list above s
pub not_above : (t s : ℕ) (ns : List Note) → t ≤ s → are_above s ns ≡ true → is_expected t ns ≡ false
not_above t s [] le up = refl
not_above t s (n ∷ ns) le up =
    cond-false (n.ticket == t) true (is_expected t ns) (ne_eqb n.ticket t (λ e. less t n.ticket (omega (arith, le, head_above s n ns up)) (sym e)))
    ∙ not_above t n.ticket ns (omega (arith, le, head_above s n ns up)) (rest_above s n ns up)

pub no_mark_above : (t s : ℕ) (ns : List Note) → t ≤ s → are_above s ns ≡ true → is_noticed t ns ≡ false
no_mark_above t s [] le up = refl
no_mark_above t s (n ∷ ns) le up =
    cond-false (n.ticket == t) n.noticed (is_noticed t ns) (ne_eqb n.ticket t (λ e. less t n.ticket (omega (arith, le, head_above s n ns up)) (sym e)))
    ∙ no_mark_above t n.ticket ns (omega (arith, le, head_above s n ns up)) (rest_above s n ns up)

-- the front up to the search's place has no note of the ticket
pub front_lacks : (t : ℕ) (ns : List Note) (at : ℕ) → Below ns at t → is_expected t (take at ns) ≡ false
front_lacks t [] zero low = refl
front_lacks t [] (suc at) low = refl
front_lacks t (n ∷ ns) zero low = refl
front_lacks t (n ∷ ns) (suc at) low =
    cond-false (n.ticket == t) true (is_expected t (take at ns)) (ne_eqb n.ticket t (less n.ticket t (low 0 n refl (omega arith))))
    ∙ front_lacks t ns at (λ k m is lt. low (suc k) m is (omega arith))

-- nor has the whole, where the one at the search's place is of another
pub lacks : (t : ℕ) (ns : List Note) (at : ℕ) → are_rising ns ≡ true → Below ns at t → From ns at t → ((n : Note) → slice_get ns at ≡ Some n → n.ticket ≢ t) → is_expected t ns ≡ false
lacks t [] at up low from other = refl
lacks t (n ∷ ns) zero up low from other =
    cond-false (n.ticket == t) true (is_expected t ns) (ne_eqb n.ticket t (other n refl)) ∙ not_above t n.ticket ns (from 0 n refl (omega arith)) up
lacks t (n ∷ ns) (suc at) up low from other =
    cond-false (n.ticket == t) true (is_expected t ns) (ne_eqb n.ticket t (less n.ticket t (low 0 n refl (omega arith))))
    ∙ lacks t ns at (rises n.ticket ns up) (λ k m is lt. low (suc k) m is (omega arith)) (λ k m is le. from (suc k) m is (omega arith)) other

-- a new ticket goes to the search's place
abbrev pub new_note : ℕ → Note
new_note t = record { ticket = t; noticed = false }

strict : (a b : ℕ) → b ≤ a → a ≢ b → b < a
strict a b le ne = omega (arith, le, ne)

pub put_new : (t : ℕ) (ns : List Note) (at : ℕ) → at ≤ length ns → Below ns at t → From ns at t → ((n : Note) → slice_get ns at ≡ Some n → n.ticket ≢ t) → insert ns at (new_note t) ≡ with_ticket t ns
put_new t [] zero le low from other = refl
put_new t [] (suc at) le low from other = absurd (omega arith)
put_new t (n ∷ ns) zero le low from other =
    sym (cond-false (nat_lt n.ticket t) (n ∷ with_ticket t ns) (if n.ticket == t then n ∷ ns else new_note t ∷ n ∷ ns) (le-ltb n.ticket t (from 0 n refl (omega arith)))
    ∙ cond-false (n.ticket == t) (n ∷ ns) (new_note t ∷ n ∷ ns) (ne_eqb n.ticket t (other n refl)))
put_new t (n ∷ ns) (suc at) le low from other =
    ap (λ (l : List Note). n ∷ l) (put_new t ns at (omega arith) (λ k m is lt. low (suc k) m is (omega arith)) (λ k m is le. from (suc k) m is (omega arith)) other)
    ∙ sym (cond-true (nat_lt n.ticket t) (n ∷ with_ticket t ns) (if n.ticket == t then n ∷ ns else new_note t ∷ n ∷ ns) (lt-ltb n.ticket t (low 0 n refl (omega arith))))

-- and one that is there stays
pub put_again : (t : ℕ) (ns : List Note) (at : ℕ) → at < length ns → Below ns at t → ((n : Note) → slice_get ns at ≡ Some n → n.ticket ≡ t) → ns ≡ with_ticket t ns
put_again t [] at lt low own = absurd (omega arith)
put_again t (n ∷ ns) zero lt low own =
    sym (cond-false (nat_lt n.ticket t) (n ∷ with_ticket t ns) (if n.ticket == t then n ∷ ns else new_note t ∷ n ∷ ns) (le-ltb n.ticket t (omega (arith, own n refl)))
    ∙ cond-true (n.ticket == t) (n ∷ ns) (new_note t ∷ n ∷ ns) (eq-eqb n.ticket t (own n refl)))
put_again t (n ∷ ns) (suc at) lt low own =
    ap (λ (l : List Note). n ∷ l) (put_again t ns at (omega arith) (λ k m is lt. low (suc k) m is (omega arith)) own)
    ∙ sym (cond-true (nat_lt n.ticket t) (n ∷ with_ticket t ns) (if n.ticket == t then n ∷ ns else new_note t ∷ n ∷ ns) (lt-ltb n.ticket t (low 0 n refl (omega arith))))

-- the ticket at the search's place goes
pub taken_out : (t : ℕ) (ns : List Note) (at : ℕ) → at < length ns → Below ns at t → ((n : Note) → slice_get ns at ≡ Some n → n.ticket ≡ t) → remove ns at ≡ without_ticket t ns
taken_out t [] at lt low own = absurd (omega arith)
taken_out t (n ∷ ns) zero lt low own = sym (cond-true (n.ticket == t) ns (n ∷ without_ticket t ns) (eq-eqb n.ticket t (own n refl)))
taken_out t (n ∷ ns) (suc at) lt low own =
    ap (λ (l : List Note). n ∷ l) (taken_out t ns at (omega arith) (λ k m is lt. low (suc k) m is (omega arith)) own)
    ∙ sym (cond-false (n.ticket == t) ns (n ∷ without_ticket t ns) (ne_eqb n.ticket t (less n.ticket t (low 0 n refl (omega arith)))))

pub none_out : (t : ℕ) (ns : List Note) → is_expected t ns ≡ false → ns ≡ without_ticket t ns
none_out t [] out = refl
none_out t (n ∷ ns) out = grind (arith, nat_tests, none_out t ns)

-- The set with a ticket more.

pub above_with : (s t : ℕ) (ns : List Note) → s < t → are_above s ns ≡ true → are_above s (with_ticket t ns) ≡ true
above_with s t [] lt up = above_cons s (new_note t) [] lt refl
above_with s t (n ∷ ns) lt up = grind (arith, nat_tests, above_cons, head_above, ltb-true, rest_above, strict, ltb-false, above_with n.ticket t ns)

pub rising_with : (t : ℕ) (ns : List Note) → are_rising ns ≡ true → are_rising (with_ticket t ns) ≡ true
rising_with t [] up = refl
rising_with t (n ∷ ns) up = grind (arith, nat_tests, above_with, ltb-true, above_cons, strict, ltb-false)

pub expected_with : (t u : ℕ) (ns : List Note) → is_expected u (with_ticket t ns) ≡ (t == u || is_expected u ns)
expected_with t u [] = grind (arith, nat_tests)
expected_with t u (n ∷ ns) = grind (arith, nat_tests, expected_with t u ns)

pub noticed_with : (t u : ℕ) (ns : List Note) → are_rising ns ≡ true → is_noticed u (with_ticket t ns) ≡ is_noticed u ns
noticed_with t u [] up = grind (arith, nat_tests)
noticed_with t u (n ∷ ns) up = grind (arith, nat_tests, rises, no_mark_above, ltb-false, noticed_with t u ns (rises n.ticket ns up))

-- The set with a ticket less.

pub above_without : (s t : ℕ) (ns : List Note) → are_above s ns ≡ true → are_above s (without_ticket t ns) ≡ true
above_without s t [] up = refl
above_without s t (n ∷ ns) up = grind (arith, nat_tests, rest_above, lower, head_above, above_cons, above_without n.ticket t ns (rest_above s n ns up))

pub rising_without : (t : ℕ) (ns : List Note) → are_rising ns ≡ true → are_rising (without_ticket t ns) ≡ true
rising_without t [] up = refl
rising_without t (n ∷ ns) up = grind (arith, nat_tests, rises, above_without)

pub expected_without : (t u : ℕ) (ns : List Note) → are_rising ns ≡ true → is_expected u (without_ticket t ns) ≡ (not (t == u) && is_expected u ns)
expected_without t u [] up = grind (arith, nat_tests)
expected_without t u (n ∷ ns) up = grind (arith, nat_tests, rises, ne_eqb, not_above, expected_without t u ns (rises n.ticket ns up))

pub noticed_without : (t u : ℕ) (ns : List Note) → are_rising ns ≡ true → is_noticed u (without_ticket t ns) ≡ (not (t == u) && is_noticed u ns)
noticed_without t u [] up = grind (arith, nat_tests)
noticed_without t u (n ∷ ns) up = grind (arith, nat_tests, rises, ne_eqb, no_mark_above, noticed_without t u ns (rises n.ticket ns up))

-- The set with a mark.

above_set : (s t : ℕ) (ns : List Note) (at : ℕ) → ((n : Note) → slice_get ns at ≡ Some n → n.ticket ≡ t) → are_above s ns ≡ true → are_above s (slice_set ns at (marked t)) ≡ true
above_set s t [] at own up = refl
above_set s t (n ∷ ns) zero own up = subst (λ k. (nat_lt s k && are_above k ns) ≡ true) (own n refl) up
above_set s t (n ∷ ns) (suc at) own up = above_cons s n (slice_set ns at (marked t)) (head_above s n ns up) (above_set n.ticket t ns at own (rest_above s n ns up))

pub rising_set : (t : ℕ) (ns : List Note) (at : ℕ) → ((n : Note) → slice_get ns at ≡ Some n → n.ticket ≡ t) → are_rising ns ≡ true → are_rising (slice_set ns at (marked t)) ≡ true
rising_set t [] at own up = refl
rising_set t (n ∷ ns) zero own up = subst (λ k. are_above k ns ≡ true) (own n refl) up
rising_set t (n ∷ ns) (suc at) own up = above_set n.ticket t ns at own up

-- The set without the tickets of a list.

among_more : (u : ℕ) (ts : List ℕ) (k : ℕ) → k < length ts → is_among u (take (k + 1) ts) ≡ (slice_index_or ts k 0 == u || is_among u (take k ts))
among_more u [] k lt = absurd (omega arith)
among_more u (t ∷ ts) zero lt = first (t == u)
  where
    first : (v : Bool) → (if v then true else false) ≡ (v || false)
    first true = refl
    first false = refl
among_more u (t ∷ ts) (suc k) lt = ap (λ m. is_among u (take m (t ∷ ts))) (one k) ∙ shift (t == u) (slice_index_or ts k 0 == u) (is_among u (take (k + 1) ts)) (is_among u (take k ts)) (among_more u ts k (omega arith))
  where
    one : (k : ℕ) → suc k + 1 ≡ suc (k + 1)
    one k = omega arith

    shift : (v w x y : Bool) → x ≡ (w || y) → (if v then true else x) ≡ (w || (if v then true else y))
    shift true true x y e = refl
    shift true false x y e = refl
    shift false w x y e = e

pub without_more : (u : ℕ) (ts : List ℕ) (k : ℕ) (x b : Bool) → k < length ts → x ≡ (not (is_among u (take k ts)) && b) → (not (slice_index_or ts k 0 == u) && x) ≡ (not (is_among u (take (k + 1) ts)) && b)
without_more u ts k x b lt e = ap (λ y. not (slice_index_or ts k 0 == u) && y) e ∙ joined (slice_index_or ts k 0 == u) (is_among u (take k ts)) ∙ ap (λ y. not y && b) (sym (among_more u ts k lt))
  where
    joined : (v w : Bool) → (not v && (not w && b)) ≡ (not (v || w) && b)
    joined true w = refl
    joined false w = refl
