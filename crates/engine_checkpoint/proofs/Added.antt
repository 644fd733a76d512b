-- What the steps add to the log, one after the other: notices, a batch's checkpoint writes, a header; and which records leave.
use Rattle.std.proofs.Common.{◌≡◌, ◌⊎◌, inl, inr, ⊎_elim, ℕ, zero, suc, ◌+◌, ◌-◌, ◌<◌, ◌≤◌, Bool, true, false, List, [], ◌∷◌, ◌++◌, length, take, drop, map, slice_get, Option, Some, None, Result, Ok, Err, IsErr, OnOk, Contains, refl, sym, ◌∙◌, ap, subst, arith}
use Rattle.std.proofs.lemmas.Bool.Decides.{nat_tests}
use Rattle.std.specs.Bool.{⊤}
use Rattle.std.proofs.Math.Seq.{take-length}
use Rattle.std.proofs.lemmas.Bool.{false≢true}
use Rattle.std.proofs.lemmas.Option.{same_Some, none-some}
use Rattle.layout_journal.specs.Ring.{RingPlaces}
use Rattle.layout_journal.specs.Spelling.{header_block}
use Rattle.disk_contract.specs.declared.event.Event.{Event}
use Rattle.disk_contract.specs.declared.event.Event.TheVariants.{Wrote, Lost, Noticed}
use Rattle.disk_contract.specs.Cell.{notices}
use Rattle.crash_argument.specs.Writes.{AddsAll}
use Rattle.engine_running.specs.declared.put.Put.{Put}
use Rattle.engine_running.specs.Writes.{fresh_write}
use Rattle.engine_checkpoint.specs.declared.pipeline.Pipeline.{Pipeline}
use Rattle.engine_checkpoint.specs.Adds.{HasPayload, AddsHome, LosesFront}
use Rattle.engine_checkpoint.specs.Agree.{home_ticket}
use Rattle.engine_checkpoint.specs.Batch.{IsHomeRow}
use Rattle.engine_checkpoint.specs.Kept.{Kept, kept, newest_after, newest_in, of_sure}
use Rattle.engine_checkpoint.specs.Turns.{BatchAdds, AddsBatch, HeaderAdds, AddsHeader, TurnsOrStays, EndsOrStays, due_header}
use Rattle.engine_checkpoint.proofs.BatchEnds.{take_front}
use Rattle.engine_checkpoint.proofs.BatchRows.{put_at}
use Rattle.engine_checkpoint.proofs.EventRows.{Adds, adds_none, adds_one, adds_on, adds_as, adds_notices, adds_writes, adds_front}
use Rattle.engine_checkpoint.proofs.Index.{kept_turned, kept_ended}

-- The newest payload in a row of records, of which some before it have left.

newest_more : (before : Option (List ℕ)) (ks : List Kept) (b : ℕ) (x : List ℕ) → newest_in None ks b ≡ Some x → newest_in before ks b ≡ Some x
newest_more before [] b x is = absurd (none-some x is)
newest_more before (k ∷ ks) b x is =
    let step : (newest_after None k b ≡ newest_after before k b) ⊎ (newest_after None k b ≡ None) = grind (arith, nat_tests) in
    ⊎_elim (λ same. ap (λ o. newest_in o ks b) (sym same) ∙ is) (λ none. newest_more (newest_after before k b) ks b x (ap (λ o. newest_in o ks b) (sym none) ∙ is)) step

-- records that have left don't take away the newest payload of those behind them
pub newest_before : (n : ℕ) (ks : List Kept) (b : ℕ) (x : List ℕ) → newest_in None (drop n ks) b ≡ Some x → newest_in None ks b ≡ Some x
newest_before zero ks b x is = is
newest_before (suc n) [] b x is = is
newest_before (suc n) (k ∷ ks) b x is = newest_more (newest_after None k b) ks b x (newest_before n ks b x is)

has_before : (n : ℕ) (ks : List Kept) (b : ℕ) (x : List ℕ) → HasPayload (drop n ks) b x → HasPayload ks b x
has_before zero ks b x has = has
has_before (suc n) [] b x has = has
has_before (suc n) (k ∷ ks) b x has = let r = has_before n ks b x has in record { front = suc r.front; newest = newest_more (newest_after None k b) (take r.front ks) b x r.newest }

-- Events of which each is of a kind.

-- a write of a header or of a payload, or a notice
abbrev MayAdd : List Kept → Event → Type 0
MayAdd ks (Wrote t b x) = (b < 2) ⊎ HasPayload ks b x
MayAdd ks (Lost b x) = (b < 2) ⊎ HasPayload ks b x
MayAdd ks (Noticed t) = ⊤

-- the same, and no write that was lost
abbrev CalmlyAdd : List Kept → Event → Type 0
CalmlyAdd ks (Wrote t b x) = (b < 2) ⊎ HasPayload ks b x
CalmlyAdd ks (Lost b x) = ⊥
CalmlyAdd ks (Noticed t) = ⊤

may_before : (n : ℕ) (ks : List Kept) (e : Event) → MayAdd (drop n ks) e → MayAdd ks e
may_before n ks (Wrote t b x) h = ⊎_elim inl (λ has. inr (has_before n ks b x has)) h
may_before n ks (Lost b x) h = ⊎_elim inl (λ has. inr (has_before n ks b x has)) h
may_before n ks (Noticed t) h = h

calm_before : (n : ℕ) (ks : List Kept) (e : Event) → CalmlyAdd (drop n ks) e → CalmlyAdd ks e
calm_before n ks (Wrote t b x) h = ⊎_elim inl (λ has. inr (has_before n ks b x has)) h
calm_before n ks (Lost b x) h = absurd h
calm_before n ks (Noticed t) h = h

-- To the promise, and back.

home_of_calm : {A E : Type 0} (r : Result A E) (ks : List Kept) (old new : List Event) → Adds (CalmlyAdd ks) old new → AddsHome r ks old new
home_of_calm r ks old new one = record {
  more = one.more;
  log = one.log;
  wrote = λ t b x there. one.each (Wrote t b x) there;
  lost = λ b x there. absurd (one.each (Lost b x) there);
  calm = on r;
}
  where
    on : {A E : Type 0} (r : Result A E) → OnOk r ((b : ℕ) (x : List ℕ) → ¬ Contains one.more (Lost b x))
    on (Ok a) = λ b x there. one.each (Lost b x) there
    on (Err e) = tt

home_of_err : {A E : Type 0} (e : E) (ks : List Kept) (old new : List Event) → Adds (MayAdd ks) old new → AddsHome {A = A} {E = E} (Err e) ks old new
home_of_err e ks old new one = record {
  more = one.more;
  log = one.log;
  wrote = λ t b x there. one.each (Wrote t b x) there;
  lost = λ b x there. one.each (Lost b x) there;
  calm = tt;
}

calm_of : {A E : Type 0} (a : A) (ks : List Kept) (old new : List Event) → AddsHome {A = A} {E = E} (Ok a) ks old new → Adds (CalmlyAdd ks) old new
calm_of a ks old new h = record { more = h.more; log = h.log; each = by }
  where
    by : (e : Event) → Contains h.more e → CalmlyAdd ks e
    by (Wrote t b x) there = h.wrote t b x there
    by (Lost b x) there = h.calm b x there
    by (Noticed t) there = tt

may_of : {A E : Type 0} (r : Result A E) (ks : List Kept) (old new : List Event) → AddsHome r ks old new → Adds (MayAdd ks) old new
may_of r ks old new h = record { more = h.more; log = h.log; each = by }
  where
    by : (e : Event) → Contains h.more e → MayAdd ks e
    by (Wrote t b x) there = h.wrote t b x there
    by (Lost b x) there = h.lost b x there
    by (Noticed t) there = tt

-- Calls one after the other.

-- nothing is added
pub home_none : {A E : Type 0} (r : Result A E) (ks : List Kept) (old new : List Event) → new ≡ old → AddsHome r ks old new
home_none r ks old new same = home_of_calm r ks old new (adds_none (CalmlyAdd ks) old new same)

-- a call that succeeded, and then another, by fewer records
pub home_then : {A E B F : Type 0} (a : A) (r : Result B F) (ks rest : List Kept) (old middle new : List Event) → LosesFront ks rest → AddsHome {A = A} {E = E} (Ok a) ks old middle → AddsHome r rest middle new → AddsHome r ks old new
home_then a (Ok b) ks rest old middle new front one two =
    home_of_calm (Ok b) ks old new (adds_on (CalmlyAdd ks) old middle new (calm_of a ks old middle one)
    (adds_as (CalmlyAdd (drop front.count ks)) (CalmlyAdd ks) middle new (calm_before front.count ks) (subst (λ l. Adds (CalmlyAdd l) middle new) front.rest (calm_of b rest middle new two))))
home_then a (Err e) ks rest old middle new front one two =
    home_of_err e ks old new (adds_on (MayAdd ks) old middle new (may_of (Ok a) ks old middle one)
    (adds_as (MayAdd (drop front.count ks)) (MayAdd ks) middle new (may_before front.count ks) (subst (λ l. Adds (MayAdd l) middle new) front.rest (may_of (Err e) rest middle new two))))

-- the answer is a fault, whatever it was of
pub home_failed : {A E B F : Type 0} (q : Result A E) (r : Result B F) (ks : List Kept) (old new : List Event) → IsErr r → AddsHome q ks old new → AddsHome r ks old new
home_failed q (Ok b) ks old new e h = absurd (false≢true e)
home_failed q (Err f) ks old new e h = home_of_err f ks old new (may_of q ks old new h)

-- the answer is any, where no write was lost
pub home_went : {A E B F : Type 0} (a : A) (r : Result B F) (ks : List Kept) (old new : List Event) → AddsHome {A = A} {E = E} (Ok a) ks old new → AddsHome r ks old new
home_went a r ks old new h = home_of_calm r ks old new (calm_of a ks old new h)

-- Notices.

pub home_noticed : {A E : Type 0} (r : Result A E) (ks : List Kept) (ts : List ℕ) (old new : List Event) → new ≡ old ++ notices ts → AddsHome r ks old new
home_noticed r ks ts old new log = home_of_calm r ks old new (adds_notices (CalmlyAdd ks) (λ t. tt) ts old new log)

-- The batch.

all_add : {A E : Type 0} (r : Result A E) (ks : List Kept) (ws : List (ℕ × List ℕ)) (now : List ℕ) (old new : List Event) → ((k : ℕ) (w : ℕ × List ℕ) → slice_get ws k ≡ Some w → HasPayload ks w.0 w.1) → AddsAll ws r [] now old new → AddsHome r ks old new
all_add (Ok a) ks ws now old new each adds = home_of_calm (Ok a) ks old new (adds_writes (CalmlyAdd ks) ws adds.0 old new (λ t k w is. inr (each k w is)) adds.2)
all_add (Err e) ks ws now old new each adds = home_of_err e ks old new (adds_front (MayAdd ks) ws old new (λ t k w is. inr (each k w is)) (λ k w is. inr (each k w is)) adds)

pub get_write : (row : List Put) (k : ℕ) (w : ℕ × List ℕ) → slice_get (map fresh_write row) k ≡ Some w → (q : Put) × (slice_get row k ≡ Some q) × (fresh_write q ≡ w)
get_write [] k w is = absurd (none-some w is)
get_write (q ∷ row) zero w is = (q, refl, same_Some _ _ is)
get_write (q ∷ row) (suc k) w is = get_write row k w is

row_has : (v : Pipeline) (row : List Put) → IsHomeRow (map of_sure v.sure.items) row → (k : ℕ) (w : ℕ × List ℕ) → slice_get (map fresh_write row) k ≡ Some w → HasPayload (kept v) w.0 w.1
row_has v row home k w is = grind (arith, nat_tests, get_write, put_at, take_front, take-length)

pub home_batch : {A E : Type 0} (due : Bool) (r : Result A E) (v w : Pipeline) (old new : List Event) → AddsBatch due r v w old new → AddsHome r (kept v) old new
home_batch true r v w old new adds = all_add r (kept v) (map fresh_write adds.0) (map home_ticket w.home.items) old new (row_has v adds.0 adds.1) adds.2
home_batch false r v w old new same = home_none r (kept v) old new same

-- The header.

header_low : (slot : ℕ) → 1 - slot < 2
header_low slot = omega arith

pub home_header : {A E : Type 0} (due : Bool) (r : Result A E) (ks : List Kept) (v w : Pipeline) (ring : RingPlaces) (old new : List Event) → AddsHeader due r v w ring old new → AddsHome r ks old new
home_header true (Ok a) ks v w ring old new adds = home_of_calm (Ok a) ks old new (adds_one (CalmlyAdd ks) old new (Wrote adds.0.ticket (1 - v.slot) (header_block (due_header v ring))) adds.2.2 (inl (header_low v.slot)))
home_header true (Err e) ks v w ring old new adds = home_of_err e ks old new (⊎_elim (λ same. adds_none (MayAdd ks) old new same) (λ log. adds_one (MayAdd ks) old new (Lost (1 - v.slot) (header_block (due_header v ring))) log (inl (header_low v.slot))) adds)
home_header false r ks v w ring old new same = home_none r ks old new same

-- Which records leave.

pub loses_none : (ks rest : List Kept) → rest ≡ ks → LosesFront ks rest
loses_none ks rest same = record { count = 0; rest = same }

pub drop_more : {A : Type 0} (m n : ℕ) (xs : List A) → drop m (drop n xs) ≡ drop (n + m) xs
drop_more m zero xs = grind (arith, nat_tests)
drop_more m (suc n) [] = none m ∙ sym (none (suc n + m))
  where
    none : {B : Type 0} (m : ℕ) → drop {A = B} m [] ≡ []
    none zero = refl
    none (suc m) = refl
drop_more m (suc n) (x ∷ xs) = drop_more m n xs ∙ ap (λ k. drop k (x ∷ xs)) (s n m)
  where
    s : (n m : ℕ) → suc (n + m) ≡ suc n + m
    s n m = omega arith

pub loses_on : (a b c : List Kept) → LosesFront a b → LosesFront b c → LosesFront a c
loses_on a b c one two = record { count = one.count + two.count; rest = two.rest ∙ ap (drop two.count) one.rest ∙ drop_more two.count one.count a }

pub loses_turned : (r : Bool) (a b : Pipeline) (old new : RingPlaces) → TurnsOrStays r a b old new → LosesFront (kept a) (kept b)
loses_turned true a b old new turns = loses_none (kept a) (kept b) (kept_turned a b old new turns)
loses_turned false a b old new same = loses_none (kept a) (kept b) (ap kept same.0)

pub loses_ended : (r : Bool) (b c : Pipeline) → b.batch ≤ length b.sure.items → EndsOrStays r b c → LosesFront (kept b) (kept c)
loses_ended true b c le ends = record { count = b.batch; rest = kept_ended b c ends le }
loses_ended false b c le same = loses_none (kept b) (kept c) (ap kept same)

-- a batch that begins and a header that is written leave the records as they are
pub kept_begun : {A E : Type 0} (due : Bool) (r : Result A E) (w x : Pipeline) → BatchAdds due r w x → kept x ≡ kept w
kept_begun true (Ok a) w x begins = ap kept begins.0.rest
kept_begun true (Err e) w x begins = ap kept begins.rest
kept_begun false (Ok a) w x same = ap kept same
kept_begun false (Err e) w x bad = absurd bad

pub kept_made : {A E : Type 0} (due : Bool) (r : Result A E) (x y : Pipeline) (ring : RingPlaces) → HeaderAdds due r x y ring → kept y ≡ kept x
kept_made true (Ok a) x y ring writes = ap kept writes.rest
kept_made true (Err e) x y ring same = ap kept same
kept_made false (Ok a) x y ring same = ap kept same
kept_made false (Err e) x y ring bad = absurd bad

pub loses_batch : {A E : Type 0} (due : Bool) (r : Result A E) (w x : Pipeline) → BatchAdds due r w x → LosesFront (kept w) (kept x)
loses_batch due r w x begins = loses_none (kept w) (kept x) (kept_begun due r w x begins)

pub loses_header : {A E : Type 0} (due : Bool) (r : Result A E) (x y : Pipeline) (ring : RingPlaces) → HeaderAdds due r x y ring → LosesFront (kept x) (kept y)
loses_header due r x y ring adds = loses_none (kept x) (kept y) (kept_made due r x y ring adds)

-- the steps that make no write, one after the other
pub loses_forward : (v a b c w : Pipeline) (turned ended : Bool) (ring next_ring : RingPlaces) → kept a ≡ kept v → TurnsOrStays turned a b ring next_ring → b.batch ≤ length b.sure.items → EndsOrStays ended b c → w ≡ record c { blocks = w.blocks } → LosesFront (kept v) (kept w)
loses_forward v a b c w turned ended ring next_ring settled turns le ends rest = grind (arith, nat_tests, loses_on, loses_none, loses_turned, loses_ended)

pub loses_served : (v w : Pipeline) → w ≡ record v { blocks = w.blocks } → LosesFront (kept v) (kept w)
loses_served v w rest = loses_none (kept v) (kept w) (ap kept rest)

-- notices leave the records as they are
pub loses_heard : (v w : Pipeline) → w ≡ record v { notes = w.notes } → LosesFront (kept v) (kept w)
loses_heard v w rest = loses_none (kept v) (kept w) (ap kept rest)

-- The whole of a step: nothing, then a batch and a header.

-- what was added by fewer records
pub home_before : {A E : Type 0} (r : Result A E) (ks rest : List Kept) (old new : List Event) → LosesFront ks rest → AddsHome r rest old new → AddsHome r ks old new
home_before r ks rest old new front h = home_then {A = Unit {0}} tt r ks rest old old new front (home_none {E = Unit {0}} (Ok tt) ks old old refl) h

pub home_stepped : {A B F : Type 0} (E : Type 0) (a : A) (r : Result B F) (due header_due : Bool) (v w x y : Pipeline) (ring : RingPlaces) (old middle new : List Event) → LosesFront (kept v) (kept w) → AddsBatch {A = A} {E = E} due (Ok a) w x old middle → AddsHeader header_due r x y ring middle new → AddsHome r (kept v) old new
home_stepped {A} E a r due header_due v w x y ring old middle new front batch header =
    home_then {A = A} {E = E} a r (kept v) (kept v) old middle new (loses_none (kept v) (kept v) refl)
    (home_before {A = A} {E = E} (Ok a) (kept v) (kept w) old middle front (home_batch {A = A} {E = E} due (Ok a) w x old middle batch))
    (home_header header_due r (kept v) x y ring middle new header)

-- notices, and then a step
pub home_heard : {A E : Type 0} (r : Result A E) (ks rest : List Kept) (ts : List ℕ) (old middle new : List Event) → LosesFront ks rest → middle ≡ old ++ notices ts → AddsHome r rest middle new → AddsHome r ks old new
home_heard r ks rest ts old middle new front log h = home_then {A = Unit {0}} tt r ks rest old middle new front (home_noticed {E = Unit {0}} (Ok tt) ks ts old middle log) h
