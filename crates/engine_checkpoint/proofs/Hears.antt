-- Notes with the same tickets: which are expected, and where each stands.
use Rattle.std.proofs.Common.{◌≡◌, ℕ, zero, suc, ◌+◌, ◌<◌, ◌≤◌, ◌==◌, ◌&&◌, not, Bool, true, false, if◌then◌else◌, List, [], ◌∷◌, length, map, slice_get, Option, Some, None, option_map, get_or, refl, sym, ◌∙◌, ap, subst, arith}
use Rattle.std.proofs.lemmas.Bool.Decides.{nat_tests}
use Rattle.std.proofs.lemmas.Bool.{eqb-true, eq-eqb, false≢true, cond-true, cond-false}
use Rattle.std.proofs.lemmas.Option.{same_Some, none-some, slice_get_read, get_or_from_slice_get}
use Rattle.engine_notes.specs.declared.notes.Note.{Note}
use Rattle.engine_notes.specs.Notes.{Expected, is_expected, is_noticed, is_open, none_open, is_among, ticket_of}
use Rattle.engine_running.specs.declared.commit.Committed.{Committed}
use Rattle.engine_checkpoint.specs.Waits.{HearsMore, AreAllNoticed}
use Rattle.engine_checkpoint.proofs.Forgotten.{OpensNone}

-- a ticket is expected where it is among the tickets
pub expected_is : (ns : List Note) (u : ℕ) → is_expected u ns ≡ is_among u (map ticket_of ns)
expected_is [] u = refl
expected_is (n ∷ ns) u = ap (λ b. if n.ticket == u then true else b) (expected_is ns u)

pub expected_same : (old new : List Note) → map ticket_of new ≡ map ticket_of old → (u : ℕ) → is_expected u new ≡ is_expected u old
expected_same old new same u = expected_is new u ∙ ap (is_among u) same ∙ sym (expected_is old u)

-- where an expected ticket stands
pub stands_at : (ns : List Note) (u : ℕ) → is_expected u ns ≡ true → (k : ℕ) × (n : Note) × (slice_get ns k ≡ Some n) × (n.ticket ≡ u)
stands_at [] u e = absurd (false≢true e)
stands_at (n ∷ ns) u e = by (stands_at ns u) (n.ticket == u) refl
  where
    by : (is_expected u ns ≡ true → (k : ℕ) × (m : Note) × (slice_get ns k ≡ Some m) × (m.ticket ≡ u)) → (v : Bool) → (n.ticket == u) ≡ v → (k : ℕ) × (m : Note) × (slice_get (n ∷ ns) k ≡ Some m) × (m.ticket ≡ u)
    by rest true own = (0, n, refl, eqb-true n.ticket u own)
    by rest false other = let r = rest (sym (cond-false (n.ticket == u) true (is_expected u ns) other) ∙ e) in (suc r.0, r.1, r.2, r.3)

pub there_is_expected : (ns : List Note) (k : ℕ) (n : Note) → slice_get ns k ≡ Some n → is_expected n.ticket ns ≡ true
there_is_expected [] k n is = absurd (none-some n is)
there_is_expected (m ∷ ns) zero n is = cond-true (m.ticket == n.ticket) true (is_expected n.ticket ns) (eq-eqb m.ticket n.ticket (ap ticket_of (same_Some m n is)))
there_is_expected (m ∷ ns) (suc k) n is = grind (arith, nat_tests, there_is_expected ns k n is)

-- the ticket at a place
at_place : (ns : List Note) (k : ℕ) → slice_get (map ticket_of ns) k ≡ option_map ticket_of (slice_get ns k)
at_place [] k = refl
at_place (n ∷ ns) zero = refl
at_place (n ∷ ns) (suc k) = at_place ns k

none_mapped : (o : Option Note) → option_map ticket_of o ≡ None → o ≡ None
none_mapped None e = refl
none_mapped (Some n) e = absurd (none-some n.ticket (sym e))

pub none_there : (old new : List Note) (k : ℕ) → map ticket_of new ≡ map ticket_of old → slice_get new k ≡ None → slice_get old k ≡ None
none_there old new k same none = none_mapped (slice_get old k) (sym (at_place old k) ∙ ap (λ ts. slice_get ts k) (sym same) ∙ at_place new k ∙ ap (option_map ticket_of) none)

pub same_ticket : (old new : List Note) (k : ℕ) (n m : Note) → map ticket_of new ≡ map ticket_of old → slice_get old k ≡ Some n → slice_get new k ≡ Some m → m.ticket ≡ n.ticket
same_ticket old new k n m same was now = same_Some m.ticket n.ticket (sym (at_place new k ∙ ap (option_map ticket_of) now) ∙ ap (λ ts. slice_get ts k) same ∙ at_place old k ∙ ap (option_map ticket_of) was)

-- an expected ticket that isn't open is noticed
pub closed_is_noticed : (u : ℕ) (ns : List Note) → is_open u ns ≡ false → is_expected u ns ≡ true → is_noticed u ns ≡ true
closed_is_noticed u ns closed expected = grind (arith, nat_tests)

pub hears_on : (a b c : Expected) → HearsMore a b → HearsMore b c → HearsMore a c
hears_on a b c h k = record { tickets = k.tickets ∙ h.tickets; room = k.room ∙ h.room; noticed = λ u e. k.noticed u (h.noticed u e) }

-- the first so many notes are noticed
abbrev pub AreNoticedUpto : ℕ → List Note → List Note → Type 0
AreNoticedUpto count old now = (k : ℕ) (n : Note) → k < count → slice_get old k ≡ Some n → is_noticed n.ticket now ≡ true

pub all_noticed : (old : List Note) (new : List Note) (count : ℕ) → map ticket_of new ≡ map ticket_of old → length old ≤ count → AreNoticedUpto count old new → AreAllNoticed new
all_noticed old new count same all upto u e = let r = stands_at old u (sym (expected_same old new same u) ∙ e) in subst (λ t. is_noticed t new ≡ true) r.3 (upto r.0 r.1 (omega (arith, all, Rattle.std.proofs.lemmas.Option.slice_get_within old r.0 r.1 r.2)) r.2)

-- one more: the note at this place is noticed now
pub upto_more : (old : List Note) (was now : Expected) (count : ℕ) → AreNoticedUpto count old was.notes → ((u : ℕ) → is_noticed u was.notes ≡ true → is_noticed u now.notes ≡ true) → ((n : Note) → slice_get old count ≡ Some n → is_noticed n.ticket now.notes ≡ true) → AreNoticedUpto (count + 1) old now.notes
upto_more old was now count upto more own k n lt is = grind (arith, nat_tests)

-- the note that stood at a place of the first notes is noticed, since the one that stands there now is
pub here : (first was now : List Note) (k : ℕ) (n : Note) → map ticket_of was ≡ map ticket_of first → slice_get first k ≡ Some n → ((m : Note) → slice_get was k ≡ Some m → is_noticed m.ticket now ≡ true) → is_noticed n.ticket now ≡ true
here first was now k n same is heard = grind (arith, nat_tests, none_there, same_ticket)

-- a note whose ticket was expected and isn't open any more
pub heard_at : (old new : List Note) (k : ℕ) (m n : Note) → slice_get old k ≡ Some m → slice_get old k ≡ Some n → map ticket_of new ≡ map ticket_of old → is_open m.ticket new ≡ false → is_noticed n.ticket new ≡ true
heard_at old new k m n is_m is_n same closed = subst (λ (x : Note). is_noticed x.ticket new ≡ true) (same_Some m n (sym is_m ∙ is_n)) (closed_is_noticed m.ticket new closed (expected_same old new same m.ticket ∙ there_is_expected old k m is_m))

-- Tickets of a record, of which none is open.

-- none of the first so many of these tickets is open
abbrev pub AreClosedUpto : ℕ → List ℕ → List Note → Type 0
AreClosedUpto count ts notes = (k t : ℕ) → k < count → slice_get ts k ≡ Some t → is_open t notes ≡ false

pub none_open_of : (ts : List ℕ) (notes : List Note) (count : ℕ) → length ts ≤ count → AreClosedUpto count ts notes → none_open ts notes ≡ true
none_open_of [] notes count all closed = refl
none_open_of (t ∷ ts) notes zero all closed = absurd (omega (arith, all))
none_open_of (t ∷ ts) notes (suc count) all closed = both (is_open t notes) (none_open ts notes) (closed 0 t (omega arith) refl) (none_open_of ts notes count (omega (arith, all)) (λ k u lt is. closed (suc k) u (omega (arith, lt)) is))
  where
    both : (w r : Bool) → w ≡ false → r ≡ true → (not w && r) ≡ true
    both false r e f = f
    both true r e f = absurd (false≢true (sym e))

-- a ticket that isn't open stays so as more is heard
pub closed_on : (old new : Expected) (t : ℕ) → HearsMore old new → is_open t old.notes ≡ false → is_open t new.notes ≡ false
closed_on old new t hears closed = grind (arith, nat_tests, expected_same)

pub none_open_on : (old new : Expected) (ts : List ℕ) → HearsMore old new → none_open ts old.notes ≡ true → none_open ts new.notes ≡ true
none_open_on old new [] hears e = refl
none_open_on old new (t ∷ ts) hears e = grind (arith, nat_tests, closed_on, none_open_on old new ts hears (Rattle.std.proofs.lemmas.Bool.and_parts (not (is_open t old.notes)) (none_open ts old.notes) e).1)

pub closed_more : (ts : List ℕ) (was now : Expected) (count : ℕ) → AreClosedUpto count ts was.notes → HearsMore was now → ((t : ℕ) → slice_get ts count ≡ Some t → is_open t now.notes ≡ false) → AreClosedUpto (count + 1) ts now.notes
closed_more ts was now count upto hears own k t lt is = grind (arith, nat_tests, closed_on)

-- The first so many of these records are waited for.
abbrev pub AreClosedRecords : ℕ → List Committed → List Note → Type 0
AreClosedRecords count cs notes = (k : ℕ) (c : Committed) → k < count → slice_get cs k ≡ Some c → none_open c.tickets.items notes ≡ true

pub records_more : (cs : List Committed) (was now : Expected) (count : ℕ) → AreClosedRecords count cs was.notes → HearsMore was now → ((c : Committed) → slice_get cs count ≡ Some c → none_open c.tickets.items now.notes ≡ true) → AreClosedRecords (count + 1) cs now.notes
records_more cs was now count upto hears own k c lt is = grind (arith, nat_tests, none_open_on)

-- the record at a place, by its index
pub record_at : (cs : List Committed) (k : ℕ) (c : Committed) → k < length cs → c ≡ get_or cs k c → slice_get cs k ≡ Some c
record_at cs k c lt is = slice_get_read cs (length cs) k c refl lt is

-- the ticket at a place of a record, by both indices
pub ticket_at : (cs : List Committed) (i k : ℕ) (c d : Committed) (t u : ℕ) → i < length cs → c ≡ get_or cs i c → u ≡ get_or c.tickets.items k u → slice_get cs i ≡ Some d → slice_get d.tickets.items k ≡ Some t → t ≡ u
ticket_at cs i k c d t u lt is own at there = sym (get_or_from_slice_get d.tickets.items k t u there) ∙ ap (λ (x : Committed). get_or x.tickets.items k u) (sym (same_Some c d (sym (record_at cs i c lt is) ∙ at))) ∙ sym own

pub ends : (cs : List Committed) (i : ℕ) (c d : Committed) (count : ℕ) → i < length cs → c ≡ get_or cs i c → slice_get cs i ≡ Some d → length c.tickets.items ≤ count → length d.tickets.items ≤ count
ends cs i c d count lt is at le = subst (λ (x : Committed). length x.tickets.items ≤ count) (same_Some c d (sym (record_at cs i c lt is) ∙ at)) le

pub hears_same : (a : Expected) → HearsMore a a
hears_same a = record { tickets = refl; room = refl; noticed = λ u e. e }

-- what isn't open stays so
pub heard_opens : (old new : Expected) → HearsMore old new → OpensNone old.notes new.notes
heard_opens old new hears u e = grind (arith, nat_tests, closed_on)
