-- Which notices came, and that the notes know those of committed records.
use Rattle.std.proofs.Common.{◌≡◌, ◌⊎◌, inl, inr, ⊎_elim, ℕ, zero, suc, ◌+◌, ◌-◌, ◌==◌, ◌&&◌, ◌||◌, Bool, true, false, if◌then◌else◌, List, [], ◌∷◌, ◌++◌, map, slice_get, Some, Result, Ok, Err, IsErr, refl, sym, ◌∙◌, ap, subst, append_assoc, append-nil, arith}
use Rattle.std.proofs.lemmas.Bool.Decides.{nat_tests}
use Rattle.std.proofs.lemmas.Bool.{false≢true, eqb-true, eq-eqb}
use Rattle.std.proofs.lemmas.Option.{none-some, same_Some}
use Rattle.layout_journal.specs.Ring.{RingPlaces}
use Rattle.layout_journal.specs.Spelling.{header_block}
use Rattle.disk_contract.specs.declared.event.Event.{Event}
use Rattle.disk_contract.specs.declared.event.Event.TheVariants.{Wrote, Lost, Noticed}
use Rattle.disk_contract.specs.declared.disk.DiskFault.{DiskFault}
use Rattle.disk_contract.specs.Cell.{IsNoticed, notices}
use Rattle.disk_contract.specs.Disk.{State, AreWrites, GrowsByWrites, HearsAlone}
use Rattle.disk_contract.specs.Manner.{Manner}
use Rattle.disk_contract.specs.Logs.{IsNoticed-append as noticed_in}
use Rattle.crash_argument.specs.HomeTest.{is_one_of}
use Rattle.crash_argument.specs.Writes.{AddsWrites, AddsAll}
use Rattle.engine_notes.specs.declared.notes.Note.{Note}
use Rattle.engine_notes.specs.Notes.{Expected, is_expected, is_noticed, is_open}
use Rattle.engine_running.specs.Writes.{fresh_write}
use Rattle.engine_checkpoint.specs.declared.pipeline.Pipeline.{Pipeline}
use Rattle.engine_checkpoint.specs.Agree.{home_ticket}
use Rattle.engine_checkpoint.specs.Steps.{TakesAll}
use Rattle.engine_checkpoint.specs.Turns.{AddsBatch, AddsHeader, BatchAdds, HeaderAdds, due_header}
use Rattle.engine_checkpoint.specs.Waits.{ForgetsSome, HearsAll, HearsMore, HearsOnly, StaysHeard}
use Rattle.engine_checkpoint.proofs.Apart.{one_or}
use Rattle.engine_checkpoint.proofs.Given.{open_expected}
use Rattle.engine_checkpoint.proofs.Hears.{expected_same}
use Rattle.engine_checkpoint.proofs.HomeSent.{noticed_on}
use Rattle.engine_checkpoint.proofs.Spent.{holds_ok}

-- Notices in a log that grew.

-- a ticket whose notice is in a row of notices is one of theirs
noticed_one : (u : ℕ) (ts : List ℕ) → IsNoticed u (notices ts) → is_one_of u ts ≡ true
noticed_one u [] came = absurd (false≢true came)
noticed_one u (t ∷ ts) came = grind (arith, nat_tests, noticed_one u ts)

-- writes bring no notice
writes_bring_none : (u : ℕ) (es : List Event) → AreWrites es → IsNoticed u es → ⊥
writes_bring_none u [] writes came = false≢true came
writes_bring_none u (Wrote t b x ∷ es) writes came = writes_bring_none u es writes came
writes_bring_none u (Lost b x ∷ es) writes came = writes_bring_none u es writes came
writes_bring_none u (Noticed t ∷ es) writes came = absurd writes

-- so where the log grew by writes alone each notice is an old one
pub none_came : (old new : List Event) → GrowsByWrites old new → (u : ℕ) → IsNoticed u new → IsNoticed u old
none_came old new grows u came = ⊎_elim (λ was. was) (λ now. absurd (writes_bring_none u grows.more grows.writes now)) (noticed_in u old grows.more (subst (λ (log : List Event). IsNoticed u log) grows.log came))

-- The steps that write add writes alone.

append_writes : (es fs : List Event) → AreWrites es → AreWrites fs → AreWrites (es ++ fs)
append_writes [] fs one two = two
append_writes (Wrote t b x ∷ es) fs one two = append_writes es fs one two
append_writes (Lost b x ∷ es) fs one two = append_writes es fs one two
append_writes (Noticed t ∷ es) fs one two = one

grows_none : (old new : List Event) → new ≡ old → GrowsByWrites old new
grows_none old new same = record { more = []; log = same ∙ sym (append-nil old); writes = tt }

pub grows_on : (a b c : List Event) → GrowsByWrites a b → GrowsByWrites b c → GrowsByWrites a c
grows_on a b c one two = record { more = one.more ++ two.more; log = two.log ∙ ap (λ xs. xs ++ two.more) one.log ∙ append_assoc a one.more two.more; writes = append_writes one.more two.more one.writes two.writes }

grows_writes : (ws : List (ℕ × List ℕ)) (ts : List ℕ) (old new : List Event) → AddsWrites ws ts old new → GrowsByWrites old new
grows_writes [] [] old new same = grows_none old new same
grows_writes [] (t ∷ ts) old new bad = absurd bad
grows_writes (w ∷ ws) [] old new bad = absurd bad
grows_writes (w ∷ ws) (t ∷ ts) old new adds = grows_on old (old ++ Wrote t w.0 w.1 ∷ []) new (record { more = Wrote t w.0 w.1 ∷ []; log = refl; writes = tt }) (grows_writes ws ts (old ++ Wrote t w.0 w.1 ∷ []) new adds.2)

grows_all : {A E : Type 0} (ws : List (ℕ × List ℕ)) (r : Result A E) (before now : List ℕ) (old new : List Event) → AddsAll ws r before now old new → GrowsByWrites old new
grows_all ws (Ok a) before now old new adds = grows_writes ws adds.0 old new adds.2
grows_all ws (Err e) before now old new f =
    let lost : GrowsByWrites f.middle new = ⊎_elim (λ same. grows_none f.middle new same) (λ (b, x, later, next, log). record { more = Lost b x ∷ []; log = log; writes = tt }) f.ends in
    grows_on old f.middle new (grows_writes f.front f.tickets old f.middle f.accepted) lost

pub grows_batch : {A E : Type 0} (due : Bool) (r : Result A E) (v w : Pipeline) (old new : List Event) → AddsBatch due r v w old new → GrowsByWrites old new
grows_batch true r v w old new adds = grows_all (map fresh_write adds.0) r [] (map home_ticket w.home.items) old new adds.2
grows_batch false r v w old new same = grows_none old new same

pub grows_header : {A E : Type 0} (due : Bool) (r : Result A E) (v w : Pipeline) (ring : RingPlaces) (old new : List Event) → AddsHeader due r v w ring old new → GrowsByWrites old new
grows_header true (Ok a) v w ring old new adds = record { more = Wrote adds.0.ticket (1 - v.slot) (header_block (due_header v ring)) ∷ []; log = adds.2.2; writes = tt }
grows_header true (Err e) v w ring old new adds = ⊎_elim (λ same. grows_none old new same) (λ log. record { more = Lost (1 - v.slot) (header_block (due_header v ring)) ∷ []; log = log; writes = tt }) adds
grows_header false r v w ring old new same = grows_none old new same

-- Waits that bring no notice but that of their ticket.

-- each notice that came with such a wait is of its ticket
pub heard_alone : (t : ℕ) (old new : List Event) → HearsAlone t old new → (u : ℕ) → IsNoticed u new → IsNoticed u old ⊎ (u ≡ t)
heard_alone t old new alone u came = grind (arith, nat_tests, noticed_in)

-- an open ticket is noticed once its notice is taken
pub taken_is_noticed : (t : ℕ) (old new : List Note) → is_open t old ≡ true → ((u : ℕ) → is_noticed u new ≡ (is_noticed u old || (t == u && is_expected u old))) → is_noticed t new ≡ true
taken_is_noticed t old new opens takes = grind (arith, nat_tests, open_expected)

-- nothing came
pub hears_nothing : {A E : Type 0} (P : ℕ → Type 0) (r : Result A E) (old new : List Event) (notes : List Note) → new ≡ old → HearsOnly P r old new notes
hears_nothing P r old new notes same = grind (arith, nat_tests, holds_ok)

-- a wait that failed: nothing is said of the notes
pub hears_failed : {A E : Type 0} (P : ℕ → Type 0) (r : Result A E) (old new : List Event) (notes : List Note) → IsErr r → ((u : ℕ) → IsNoticed u new → IsNoticed u old ⊎ P u) → HearsOnly P r old new notes
hears_failed P (Ok a) old new notes e only = absurd (false≢true e)
hears_failed P (Err e) old new notes failed only = record { only = only; heard = tt }

-- waits one after the other

pub only_then : {A E B F : Type 0} (P Q : ℕ → Type 0) (q : Result A E) (r : Result B F) (a b c : List Event) (was now : List Note) → ((u : ℕ) → Q u → P u) → HearsOnly P q a b was → HearsOnly Q r b c now → (u : ℕ) → IsNoticed u c → IsNoticed u a ⊎ P u
only_then P Q q r a b c was now turn one two u came = ⊎_elim (λ before. one.only u before) (λ own. inr (turn u own)) (two.only u came)

pub hears_then : {B F : Type 0} (P Q : ℕ → Type 0) (x : B) (a b c : List Event) (was now : Expected) → ((u : ℕ) → Q u → P u) → HearsMore was now → HearsOnly {A = Unit {0}} {E = Unit {0}} P (Ok tt) a b was.notes → HearsOnly {A = B} {E = F} Q (Ok x) b c now.notes → HearsOnly {A = Unit {0}} {E = Unit {0}} P (Ok tt) a c now.notes
hears_then {B} {F} P Q x a b c was now turn hears one two = grind (arith, nat_tests, only_then)

-- the tickets told otherwise, or by a wider test
pub hears_as : {A E : Type 0} (P Q : ℕ → Type 0) (r : Result A E) (old new : List Event) (notes : List Note) → ((u : ℕ) → Q u → P u) → HearsOnly Q r old new notes → HearsOnly P r old new notes
hears_as P Q r old new notes turn h = record { only = λ u came. ⊎_elim inl (λ own. inr (turn u own)) (h.only u came); heard = h.heard }

-- The records that the notices are of.

-- a ticket at a place of a list is one of it
pub one_at : (ts : List ℕ) (k t : ℕ) → slice_get ts k ≡ Some t → is_one_of t ts ≡ true
one_at [] k t is = absurd (none-some t is)
one_at (u ∷ ts) zero t is = ap (λ (b : Bool). if b then true else is_one_of t ts) (eq-eqb u t (same_Some u t is))
one_at (u ∷ ts) (suc k) t is = grind (arith, nat_tests, one_at ts k t is)

-- The notes know what they knew where no notice came and of the tickets that they expect still the same is known; of a ticket that they expect newly no notice came.
pub heard_left : (old new : List Event) (v w y : Pipeline) → ForgetsSome v.notes.notes w.notes.notes → ((u : ℕ) → is_noticed u y.notes.notes ≡ is_noticed u w.notes.notes) → ((u : ℕ) → is_expected u y.notes.notes ≡ true → (is_expected u w.notes.notes ≡ true) ⊎ (¬ IsNoticed u new)) → ((u : ℕ) → IsNoticed u new → IsNoticed u old)
    → HearsAll old v → HearsAll new y
heard_left old new v w y forgets known expects none heard t expected came = ⊎_elim (λ was. known t ∙ forgets.noticed t was ∙ heard t (forgets.expected t was) (none t came)) (λ never. absurd (never came)) (expects t expected)

-- They know them after waits that brought no other notices than they know, and after notices that they took.

pub heard_waited : {P : ℕ → Type 0} {A E : Type 0} (x : A) (old new : List Event) (v w : Pipeline) → HearsMore v.notes w.notes → HearsOnly {A = A} {E = E} P (Ok x) old new w.notes.notes → HearsAll old v → HearsAll new w
heard_waited x old new v w hears h heard t expected came = ⊎_elim (λ was. hears.noticed t (heard t (sym (expected_same v.notes.notes w.notes.notes hears.tickets t) ∙ expected) was)) (λ known. known) (h.heard t came)

pub heard_taken : (ts : List ℕ) (old new : List Event) (v w : Pipeline) → HearsMore v.notes w.notes → new ≡ old ++ notices ts → TakesAll ts v.notes.notes w.notes.notes → HearsAll old v → HearsAll new w
heard_taken ts old new v w hears log takes heard t expected came = grind (arith, nat_tests, noticed_in, noticed_one)

-- The tickets of writes that came.

-- none was noticed before
never_before : (ws : List (ℕ × List ℕ)) (ts : List ℕ) (old new : List Event) (u : ℕ) → AddsWrites ws ts old new → is_one_of u ts ≡ true → ¬ IsNoticed u old
never_before [] [] old new u adds own came = false≢true own
never_before [] (t ∷ ts) old new u bad own came = bad
never_before (w ∷ ws) [] old new u bad own came = bad
never_before (w ∷ ws) (t ∷ ts) old new u adds own came = by (t == u) refl own (λ e. never_before ws ts (old ++ Wrote t w.0 w.1 ∷ []) new u adds.2 e (noticed_on u old (Wrote t w.0 w.1 ∷ []) came))
  where
    by : (b : Bool) → (t == u) ≡ b → (if b then true else is_one_of u ts) ≡ true → (is_one_of u ts ≡ true → ⊥) → ⊥
    by true same e rest = adds.1 (subst (λ n. IsNoticed n old) (sym (eqb-true t u same)) came)
    by false other e rest = rest e

-- what is expected once a batch began was expected before, or no notice of it had come
begun_expected : {A : Type 0} (due : Bool) (a : A) (w x : Pipeline) (old new : List Event) → BatchAdds {A = A} {E = DiskFault} due (Ok a) w x → AddsBatch {A = A} {E = DiskFault} due (Ok a) w x old new → (u : ℕ) → is_expected u x.notes.notes ≡ true → (is_expected u w.notes.notes ≡ true) ⊎ (¬ IsNoticed u old)
begun_expected true a w x old new begins adds u expected = ⊎_elim (λ own. inr (never_before (map fresh_write adds.0) adds.2.0 old new u adds.2.2 (subst (λ (ts : List ℕ). is_one_of u ts ≡ true) adds.2.1 own))) inl
    (one_or (is_one_of u (map home_ticket x.home.items)) (is_expected u w.notes.notes) (sym (begins.0.expected u) ∙ expected))
begun_expected false a w x old new same adds u expected = inl (ap (λ (p : Pipeline). is_expected u p.notes.notes) (sym same) ∙ expected)

made_expected : {A : Type 0} (due : Bool) (a : A) (x y : Pipeline) (ring : RingPlaces) (old new : List Event) → HeaderAdds {A = A} {E = DiskFault} due (Ok a) x y ring → AddsHeader {A = A} {E = DiskFault} due (Ok a) x y ring old new → (u : ℕ) → is_expected u y.notes.notes ≡ true → (is_expected u x.notes.notes ≡ true) ⊎ (¬ IsNoticed u old)
made_expected true a x y ring old new writes adds u expected = grind (arith, nat_tests, one_or)
made_expected false a x y ring old new same adds u expected = inl (ap (λ (p : Pipeline). is_expected u p.notes.notes) (sym same) ∙ expected)

-- both, where the log grew by writes alone
pub written_expected : {A B : Type 0} (batch header : Bool) (a : A) (b : B) (w x y : Pipeline) (ring : RingPlaces) (old mid new : List Event) → BatchAdds {A = A} {E = DiskFault} batch (Ok a) w x → HeaderAdds {A = B} {E = DiskFault} header (Ok b) x y ring
    → AddsBatch {A = A} {E = DiskFault} batch (Ok a) w x old mid → AddsHeader {A = B} {E = DiskFault} header (Ok b) x y ring mid new → (u : ℕ) → is_expected u y.notes.notes ≡ true → (is_expected u w.notes.notes ≡ true) ⊎ (¬ IsNoticed u new)
written_expected batch header a b w x y ring old mid new begins writes adds makes u expected = ⊎_elim
    (λ was. ⊎_elim inl (λ never. inr (λ came. never (none_came old mid (grows_batch batch (Ok a) w x old mid adds) u (none_came mid new (grows_header header (Ok b) x y ring mid new makes) u came)))) (begun_expected batch a w x old mid begins adds u was))
    (λ never. inr (λ came. never (none_came mid new (grows_header header (Ok b) x y ring mid new makes) u came)))
    (made_expected header b x y ring mid new writes makes u expected)

-- calls one after the other, on a disk that has the same manner all the time
pub stays_heard_on : (d e f : State) (u v w : Pipeline) → e.manner ≡ d.manner → StaysHeard d e u v → StaysHeard e f v w → StaysHeard d f u w
stays_heard_on d e f u v w same one two alone heard = two (ap (λ (m : Manner). m.waits_alone) same ∙ alone) (one alone heard)
