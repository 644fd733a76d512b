-- Open tickets stay apart: a new one is above all that were given before.
use Rattle.std.proofs.Common.{◌≡◌, ℕ, zero, suc, ◌<◌, ◌≤◌, ◌==◌, ◌&&◌, ◌||◌, ◌⊎◌, inl, inr, ⊎_elim, not, Bool, true, false, if◌then◌else◌, List, [], ◌∷◌, ◌++◌, map, slice_get, Some, refl, sym, ◌∙◌, ap, subst, arith}
use Rattle.std.proofs.lemmas.Bool.Decides.{nat_tests}
use Rattle.std.proofs.lemmas.Bool.{and_parts, or_left, or_right, eq-eqb, false≢true}
use Rattle.std.proofs.lemmas.Option.{same_Some, none-some}
use Rattle.disk_contract.specs.declared.event.Event.{Event}
use Rattle.disk_contract.specs.declared.event.Event.TheVariants.{Wrote, Lost, Noticed}
use Rattle.disk_contract.specs.Cell.{greatest_ticket, is_accepted, IsAccepted}
pub use Rattle.disk_contract.specs.Logs.{IsAccepted-more as accepted_more}
use Rattle.crash_argument.specs.HomeTest.{is_one_of}
use Rattle.crash_argument.specs.Writes.{AddsWrites}
use Rattle.engine_notes.specs.declared.notes.Note.{Note}
use Rattle.engine_notes.specs.Notes.{Expected, is_expected, are_expected, is_among}
use Rattle.engine_running.specs.declared.commit.Committed.{Committed}
use Rattle.engine_checkpoint.specs.declared.pipeline.HomeWrite.{HomeWrite}
use Rattle.engine_checkpoint.specs.declared.pipeline.Pipeline.{Pipeline}
use Rattle.engine_checkpoint.specs.Agree.{AreApart, AreNewTickets, OpenAreApart, home_ticket}
use Rattle.engine_checkpoint.proofs.Expected.{both}

-- The greatest ticket of a log.

pub greatest_more : (log more : List Event) → greatest_ticket log ≤ greatest_ticket (log ++ more)
greatest_more [] more = omega arith
greatest_more (Wrote t b x ∷ log) more = omega (arith, greatest_more log more)
greatest_more (Lost b x ∷ log) more = greatest_more log more
greatest_more (Noticed t ∷ log) more = greatest_more log more

pub greatest_last : (log : List Event) (t b : ℕ) (x : List ℕ) → t ≤ greatest_ticket (log ++ Wrote t b x ∷ [])
greatest_last [] t b x = omega arith
greatest_last (Wrote u c y ∷ log) t b x = omega (arith, greatest_last log t b x)
greatest_last (Lost c y ∷ log) t b x = greatest_last log t b x
greatest_last (Noticed u ∷ log) t b x = greatest_last log t b x

-- The tickets of accepted writes.

-- one of two
pub one_or : (x y : Bool) → (x || y) ≡ true → (x ≡ true) ⊎ (y ≡ true)
one_or true y e = inl refl
one_or false y e = inr e

-- and so is the last write
pub accepted_last : (log : List Event) (t b : ℕ) (x : List ℕ) → IsAccepted t (log ++ Wrote t b x ∷ [])
accepted_last [] t b x = or_left (t == t) false (eq-eqb t t refl)
accepted_last (Wrote u c y ∷ log) t b x = or_right (u == t) (is_accepted t (log ++ Wrote t b x ∷ [])) (accepted_last log t b x)
accepted_last (Lost c y ∷ log) t b x = accepted_last log t b x
accepted_last (Noticed u ∷ log) t b x = accepted_last log t b x

-- a ticket that isn't one of a list, by a contradiction
pub not_one : (t : ℕ) (ts : List ℕ) → (is_one_of t ts ≡ true → ⊥) → is_one_of t ts ≡ false
not_one t ts never = grind (arith, nat_tests)

-- the tickets of writes that were made one by one are new
pub new_tickets : (ws : List (ℕ × List ℕ)) (ts : List ℕ) (old new : List Event) → AddsWrites ws ts old new → AreNewTickets old new ts
new_tickets [] [] old new adds = record { above = λ t own. absurd (false≢true own); upto = λ t own. absurd (false≢true own); grows = omega (arith, ap greatest_ticket adds); given = λ t own. absurd (false≢true own); stays = λ t is. subst (λ (l : List Event). IsAccepted t l) (sym adds) is }
new_tickets [] (u ∷ us) old new adds = absurd adds
new_tickets (w ∷ ws) [] old new adds = absurd adds
new_tickets (w ∷ ws) (u ∷ us) old new adds = grind (arith, nat_tests, greatest_more, greatest_last, accepted_last, accepted_more, new_tickets ws us (old ++ Wrote u w.0 w.1 ∷ []) new adds.2)

-- Tickets that leave the notes.

pub one_among : (u : ℕ) (ts : List ℕ) → is_among u ts ≡ is_one_of u ts
one_among u [] = refl
one_among u (t ∷ ts) = ap (λ (v : Bool). if t == u then true else v) (one_among u ts)

-- a ticket that doesn't leave is expected still
pub still_one : (u : ℕ) (gone : List ℕ) (old new : List Note) → ((u : ℕ) → is_expected u new ≡ (not (is_among u gone) && is_expected u old)) → is_one_of u gone ≡ false → is_expected u old ≡ true → is_expected u new ≡ true
still_one u gone old new left stays was = left u ∙ ap (λ (v : Bool). not v && is_expected u old) (one_among u gone ∙ stays) ∙ was

pub still_all : (ts gone : List ℕ) (old new : List Note) → ((u : ℕ) → is_expected u new ≡ (not (is_among u gone) && is_expected u old)) → ((u : ℕ) → is_one_of u ts ≡ true → is_one_of u gone ≡ false) → are_expected ts old ≡ true → are_expected ts new ≡ true
still_all [] gone old new left stay was = refl
still_all (t ∷ ts) gone old new left stay was =
    let p = and_parts (is_expected t old) (are_expected ts old) was in
    both (is_expected t new) (are_expected ts new) (still_one t gone old new left (stay t (own t ts)) p.0) (still_all ts gone old new left (λ u e. stay u (later t u (is_one_of u ts) e)) p.1)
  where
    own : (t : ℕ) (ts : List ℕ) → is_one_of t (t ∷ ts) ≡ true
    own t ts = ap (λ (v : Bool). if v then true else is_one_of t ts) (eq-eqb t t refl)

    later : (t u : ℕ) (rest : Bool) → rest ≡ true → (if t == u then true else rest) ≡ true
    later t u rest e = by (t == u)
      where
        by : (v : Bool) → (if v then true else rest) ≡ true
        by true = refl
        by false = e

pub apart_back : (ts us : List ℕ) → AreApart ts us → AreApart us ts
apart_back ts us apart t own = not_one t ts (λ e. false≢true (sym (apart t e) ∙ own))

-- Tickets of a pipeline.

-- new tickets are none of those that were given before
pub none_new : (t : ℕ) (ts : List ℕ) (old new : List Event) → AreNewTickets old new ts → t ≤ greatest_ticket old → is_one_of t ts ≡ false
none_new t ts old new fresh upto = grind (arith, nat_tests, not_one)

-- and a ticket above the greatest is none of a committed record's
pub not_old : (log : List Event) (v : Pipeline) → OpenAreApart log v → (k t : ℕ) (c : Committed) → slice_get v.committed.items k ≡ Some c → greatest_ticket log < t → is_one_of t c.tickets.items ≡ false
not_old log v apart k t c is above = grind (arith, nat_tests, not_one)

-- other notes and a longer log change nothing
pub apart_on : (log new : List Event) (v : Pipeline) (notes : Expected) → greatest_ticket log ≤ greatest_ticket new → OpenAreApart log v → OpenAreApart new (record v { notes = notes })
apart_on log new v notes grows apart = record {
  records = apart.records;
  beside = apart.beside;
  header_apart = apart.header_apart;
  records_upto = λ k t c is own. omega (arith, grows, apart.records_upto k t c is own);
  beside_upto = λ t held. omega (arith, grows, apart.beside_upto t held);
}

-- the ticket of a checkpoint write is one of theirs
pub one_of_home : (home : List HomeWrite) (k : ℕ) (h : HomeWrite) → slice_get home k ≡ Some h → is_one_of h.ticket (map home_ticket home) ≡ true
one_of_home [] k h is = absurd (none-some h is)
one_of_home (x ∷ home) zero h is = ap (λ (v : Bool). if v then true else is_one_of h.ticket (map home_ticket home)) (eq-eqb x.ticket h.ticket (ap (λ (y : HomeWrite). y.ticket) (same_Some _ _ is)))
one_of_home (x ∷ home) (suc k) h is = grind (arith, nat_tests, one_of_home home k h is)
