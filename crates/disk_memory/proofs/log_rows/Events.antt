-- Small facts on logs of events: two logs one behind the other, what is at a place, which logs are lawful, and which blocks are written.
use Rattle.std.proofs.Common.{◌≡◌, ◌⊎◌, ⊎_elim, ℕ, zero, suc, ◌+◌, ◌<◌, ◌≤◌, ◌==◌, ◌||◌, true, false, List, [], ◌∷◌, ◌++◌, length, take, drop, Some, refl, sym, ◌∙◌, ap, subst, arith, append-nil, append_assoc, length-take}
use Rattle.std.specs.List.{slice_get}
use Rattle.std.proofs.lemmas.Bool.{eqb-true, eq-eqb, or_cases, or_left, or_right, false≢true, false_from_ne_true}
use Rattle.std.proofs.lemmas.List.{take-append-drop, take_more}
use Rattle.std.proofs.lemmas.Option.{none-some, slice_get_within, get_or_from_slice_get}
use Rattle.disk_contract.specs.declared.event.Event.{Event}
use Rattle.disk_contract.specs.declared.event.Event.TheVariants.{Wrote, Lost, Noticed}
use Rattle.disk_contract.specs.Cell.{greatest_ticket, is_accepted, is_noticed, IsAccepted, IsNoticed}
use Rattle.disk_contract.specs.Lawful.{MayCome, AreLawfulAfter, IsLawful, IsEventOf, AreEventsOf}
pub use Rattle.disk_contract.specs.Logs.{greatest-append, lawful_behind, lawful_front, IsNoticed-append as noticed_parts, IsNoticed-more as noticed_before, accepted_low, is_noticed-append as noticed-append}
use Rattle.disk_memory.specs.Log.{tickets, write_count, AreWithin}

-- the tickets of two logs, one behind the other, are those of the first and those of the second
pub tickets-append : (xs ys : List Event) → tickets (xs ++ ys) ≡ tickets xs ++ tickets ys
tickets-append [] ys = refl
tickets-append (Wrote t b x ∷ xs) ys = ap (λ (ts : List ℕ). t ∷ ts) (tickets-append xs ys)
tickets-append (Lost b x ∷ xs) ys = tickets-append xs ys
tickets-append (Noticed t ∷ xs) ys = tickets-append xs ys

-- there are as many writes as in both together
pub write_count-append : (xs ys : List Event) → write_count (xs ++ ys) ≡ write_count xs + write_count ys
write_count-append [] ys = omega arith
write_count-append (Wrote t b x ∷ xs) ys = let rest = write_count-append xs ys in omega arith
write_count-append (Lost b x ∷ xs) ys = let rest = write_count-append xs ys in omega arith
write_count-append (Noticed t ∷ xs) ys = write_count-append xs ys

-- so it is at least that of the first
pub greatest_before : (xs ys : List Event) → greatest_ticket xs ≤ greatest_ticket (xs ++ ys)
greatest_before xs ys = omega (arith, greatest-append xs ys)

-- and at least that of the second
pub greatest_behind : (xs ys : List Event) → greatest_ticket ys ≤ greatest_ticket (xs ++ ys)
greatest_behind xs ys = omega (arith, greatest-append xs ys)

-- a ticket above all earlier ones is the greatest when its write has come
pub greatest_wrote : (log : List Event) (t b : ℕ) (x : List ℕ) → greatest_ticket log < t → greatest_ticket (log ++ Wrote t b x ∷ []) ≡ t
greatest_wrote log t b x above = omega (arith, greatest-append log (Wrote t b x ∷ []))

-- a lost write has no ticket
pub greatest_lost : (log : List Event) (b : ℕ) (x : List ℕ) → greatest_ticket (log ++ Lost b x ∷ []) ≡ greatest_ticket log
greatest_lost log b x = omega (arith, greatest-append log (Lost b x ∷ []))

-- and a notice gives none
pub greatest_noticed : (log : List Event) (t : ℕ) → greatest_ticket (log ++ Noticed t ∷ []) ≡ greatest_ticket log
greatest_noticed log t = omega (arith, greatest-append log (Noticed t ∷ []))

-- a notice that comes last is of its ticket
pub noticed_last : (u : ℕ) (log : List Event) → IsNoticed u (log ++ Noticed u ∷ [])
noticed_last u log = noticed-append u log (Noticed u ∷ []) ∙ or_right (is_noticed u log) ((u == u) || false) (or_left (u == u) false (eq-eqb u u refl))

-- the ticket of a write that is at a place is accepted
pub accepted_there : (log : List Event) (p t b : ℕ) (x : List ℕ) → slice_get log p ≡ Some (Wrote t b x) → IsAccepted t log
accepted_there [] p t b x at = absurd cc
accepted_there (e ∷ log) zero t b x at = let same : e ≡ Wrote t b x = cc in ap (λ (f : Event). is_accepted t (f ∷ log)) same ∙ or_left (t == t) (is_accepted t log) (eq-eqb t t refl)
accepted_there (Wrote u c y ∷ log) (suc p) t b x at = or_right (u == t) (is_accepted t log) (accepted_there log p t b x at)
accepted_there (Lost c y ∷ log) (suc p) t b x at = accepted_there log p t b x at
accepted_there (Noticed u ∷ log) (suc p) t b x at = accepted_there log p t b x at

-- what is in a list stays there as more comes behind it
pub get_before : {A : Type 0} (xs ys : List A) (p : ℕ) (x : A) → slice_get xs p ≡ Some x → slice_get (xs ++ ys) p ≡ Some x
get_before [] ys p x at = absurd cc
get_before (y ∷ xs) ys zero x at = at
get_before (y ∷ xs) ys (suc p) x at = get_before xs ys p x at

-- the first of what comes behind a list is at its length
pub get_next : {A : Type 0} (xs : List A) (x : A) (ys : List A) → slice_get (xs ++ (x ∷ ys)) (length xs) ≡ Some x
get_next [] x ys = refl
get_next (y ∷ xs) x ys = get_next xs x ys

-- a front has the events of its places
pub front_at : (k : ℕ) (log : List Event) (p : ℕ) → p < k → slice_get (take k log) p ≡ slice_get log p
front_at zero log p h = absurd (omega arith)
front_at (suc k) [] p h = refl
front_at (suc k) (e ∷ log) zero h = refl
front_at (suc k) (e ∷ log) (suc p) h = front_at k log p (omega arith)

-- so an event of a front is at the same place of all
pub get_taken : (log : List Event) (k p : ℕ) (e : Event) → slice_get (take k log) p ≡ Some e → slice_get log p ≡ Some e
get_taken log k p e at = sym (front_at k log p (omega (arith, slice_get_within (take k log) p e at, length-take k log))) ∙ at

-- with the event at a place a front has one more
pub take_event : (log : List Event) (k : ℕ) (e : Event) → slice_get log k ≡ Some e → take (k + 1) log ≡ take k log ++ e ∷ []
take_event log k e at = take_more log k e (slice_get_within log k e at) ∙ ap (λ y. take k log ++ y ∷ []) (get_or_from_slice_get log k e e at)

-- a log is what is before an event, the event, and what is behind it
pub split_at : (log : List Event) (p : ℕ) (e : Event) → slice_get log p ≡ Some e → log ≡ take p log ++ (e ∷ drop (suc p) log)
split_at [] p e at = absurd cc
split_at (x ∷ log) zero e at = let same : x ≡ e = cc in ap (λ y. y ∷ log) same
split_at (x ∷ log) (suc p) e at = ap (λ (l : List Event). x ∷ l) (split_at log p e at)

-- a front of a lawful log is lawful
pub lawful_taken : (log : List Event) (k : ℕ) → IsLawful log → IsLawful (take k log)
lawful_taken log k h = lawful_front [] (take k log) (drop k log) (subst IsLawful (sym (take-append-drop k log)) h)

-- an event of a lawful log may come behind those before it
pub lawful_next : (log rest : List Event) (e : Event) → IsLawful (log ++ e ∷ rest) → MayCome log e
lawful_next log rest e h = (lawful_behind [] log (e ∷ rest) h).0

-- one more event behind lawful ones, which may come there
pub lawful_onto : (before log : List Event) (e : Event) → AreLawfulAfter before log → MayCome (before ++ log) e → AreLawfulAfter before (log ++ e ∷ [])
lawful_onto before [] e h may = (subst (λ (l : List Event). MayCome l e) (append-nil before) may, tt)
lawful_onto before (x ∷ log) e h may = (h.0, lawful_onto (before ++ x ∷ []) log e h.1 (subst (λ (l : List Event). MayCome l e) (sym (append_assoc before (x ∷ []) log)) may))

-- a noticed ticket of lawful events is at most the greatest, since it was accepted
noticed_below : (before log : List Event) (u : ℕ) → AreLawfulAfter before log → IsNoticed u log → u ≤ greatest_ticket (before ++ log)
noticed_below before [] u h n = absurd (false≢true n)
noticed_below before (Wrote t b x ∷ log) u h n = subst (λ (l : List Event). u ≤ greatest_ticket l) (append_assoc before (Wrote t b x ∷ []) log) (noticed_below (before ++ Wrote t b x ∷ []) log u h.1 n)
noticed_below before (Lost b x ∷ log) u h n = subst (λ (l : List Event). u ≤ greatest_ticket l) (append_assoc before (Lost b x ∷ []) log) (noticed_below (before ++ Lost b x ∷ []) log u h.1 n)
noticed_below before (Noticed t ∷ log) u h n = ⊎_elim
    (λ (is : (t == u) ≡ true). omega (arith, eqb-true t u is, accepted_low t before h.0.0, greatest_before before (Noticed t ∷ log)))
    (λ more. subst (λ (l : List Event). u ≤ greatest_ticket l) (append_assoc before (Noticed t ∷ []) log) (noticed_below (before ++ Noticed t ∷ []) log u h.1 more)) (or_cases (t == u) (is_noticed u log) n)

-- so it is in a lawful log
pub noticed_low : (log : List Event) (u : ℕ) → IsLawful log → IsNoticed u log → u ≤ greatest_ticket log
noticed_low log u h n = noticed_below [] log u h n

-- and no ticket above the greatest was noticed
pub unnoticed_above : (log : List Event) (u : ℕ) → IsLawful log → greatest_ticket log < u → is_noticed u log ≡ false
unnoticed_above log u h above = false_from_ne_true (is_noticed u log) (λ n. let low = noticed_low log u h n in absurd (omega arith))

-- the writes of two logs are within n blocks where those of both are
pub within-append : (n : ℕ) (xs ys : List Event) → AreWithin n xs → AreWithin n ys → AreWithin n (xs ++ ys)
within-append n [] ys old new = new
within-append n (Wrote t b x ∷ xs) ys old new = (old.0, within-append n xs ys old.1 new)
within-append n (Lost b x ∷ xs) ys old new = (old.0, within-append n xs ys old.1 new)
within-append n (Noticed t ∷ xs) ys old new = within-append n xs ys old new

-- so are those of a front
pub within_front : (n k : ℕ) (log : List Event) → AreWithin n log → AreWithin n (take k log)
within_front n zero log h = tt
within_front n (suc k) [] h = tt
within_front n (suc k) (Wrote t b x ∷ log) h = (h.0, within_front n k log h.1)
within_front n (suc k) (Lost b x ∷ log) h = (h.0, within_front n k log h.1)
within_front n (suc k) (Noticed t ∷ log) h = within_front n k log h

-- the first event by itself
within_first : (n : ℕ) (e : Event) (log : List Event) → AreWithin n (e ∷ log) → AreWithin n (e ∷ [])
within_first n (Wrote t b x) log h = (h.0, tt)
within_first n (Lost b x) log h = (h.0, tt)
within_first n (Noticed t) log h = tt

-- and each event by itself
pub one_within : (n : ℕ) (log : List Event) (p : ℕ) (e : Event) → AreWithin n log → slice_get log p ≡ Some e → AreWithin n (e ∷ [])
one_within n [] p e within at = absurd (none-some e at)
one_within n (x ∷ log) zero e within at = let same : x ≡ e = cc in subst (λ (f : Event). AreWithin n (f ∷ [])) same (within_first n x log within)
one_within n (Wrote t b x ∷ log) (suc p) e within at = one_within n log p e within.1 at
one_within n (Lost b x ∷ log) (suc p) e within at = one_within n log p e within.1 at
one_within n (Noticed t ∷ log) (suc p) e within at = one_within n log p e within at

-- an accepted write of the log is to one of its blocks
pub write_within : (n : ℕ) (log : List Event) (p t b : ℕ) (x : List ℕ) → AreWithin n log → slice_get log p ≡ Some (Wrote t b x) → b < n
write_within n log p t b x within at = (one_within n log p (Wrote t b x) within at).0

-- and so is a lost one
pub lost_within : (n : ℕ) (log : List Event) (p b : ℕ) (x : List ℕ) → AreWithin n log → slice_get log p ≡ Some (Lost b x) → b < n
lost_within n log p b x within at = (one_within n log p (Lost b x) within at).0

-- one event more of a disk of n blocks
pub events_more : (n : ℕ) (log : List Event) (e : Event) → AreEventsOf n log → IsEventOf n e → AreEventsOf n (log ++ e ∷ [])
events_more n [] e all one = (one, tt)
events_more n (d ∷ log) e all one = (all.0, events_more n log e all.1 one)

-- events of some disk whose writes are to n blocks are events of a disk of n blocks
pub events_within : (m n : ℕ) (log : List Event) → AreEventsOf m log → AreWithin n log → AreEventsOf n log
events_within m n [] all within = tt
events_within m n (Wrote t b x ∷ log) all within = ((all.0.0, within.0, all.0.2), events_within m n log all.1 within.1)
events_within m n (Lost b x ∷ log) all within = ((within.0, all.0.1), events_within m n log all.1 within.1)
events_within m n (Noticed t ∷ log) all within = (all.0, events_within m n log all.1 within)
