-- For which tickets points wait: a call of the pipeline takes some away, and a commit brings those of its record. What the notes know of them.
use Rattle.std.proofs.Common.{◌≡◌, ◌↔◌, ◌⊎◌, inl, inr, ⊎_elim, ℕ, zero, suc, ◌+◌, ◌-◌, ◌<◌, ◌≤◌, ◌==◌, not, Bool, true, false, if◌then◌else◌, List, [], ◌∷◌, ◌++◌, drop, slice_get, Some, Result, Ok, Err, OnOk, is_err, refl, sym, ◌∙◌, ap, subst, arith}
use Rattle.std.proofs.lemmas.Bool.{and_parts, eqb-true, false≢true, or_cases, cases_Bool}
use Rattle.std.proofs.lemmas.Option.{same_Some, none-some}
use Rattle.disk_contract.specs.declared.disk.DiskFault.{DiskFault}
use Rattle.disk_contract.specs.declared.event.Event.{Event}
use Rattle.disk_contract.specs.Cell.{is_accepted, IsAccepted, IsNoticed}
use Rattle.disk_contract.specs.Disk.{GrowsByWrites, State}
use Rattle.crash_argument.specs.HomeTest.{is_one_of}
use Rattle.crash_argument.specs.Writes.{AddsWrites}
use Rattle.engine_notes.specs.declared.notes.Note.{Note}
use Rattle.engine_notes.specs.Notes.{are_expected, is_expected, is_noticed, is_open}
use Rattle.engine_running.specs.declared.commit.Committed.{Committed}
use Rattle.engine_checkpoint.specs.declared.pipeline.Pipeline.{Pipeline}
use Rattle.engine_checkpoint.specs.Agree.{NotesAreGiven, OpenAreExpected}
use Rattle.engine_checkpoint.specs.Steps.{is_first_settled}
use Rattle.engine_checkpoint.specs.Waits.{HearsAll, IsOfRecord, LosesCommitted}
use Rattle.engine_blocks.specs.Crashes as blocks
use Rattle.engine_store.specs.declared.parts.StoreParts.{StoreParts}
use Rattle.engine_store.specs.Committing.{JoinsCommitted}
use Rattle.engine_store.specs.Store.{IsGoing}
use Rattle.engine_store.specs.Told.{AwaitsTheSame, IsAwaited, awaited_in, store_state}
use Rattle.engine_store.proofs.FirstOpen.{first_of, number_at, number_upto}
use Rattle.engine_store.proofs.TicketLogs.{new_ticket, noticed_before}

-- Places in lists.

-- a place behind those that were dropped
get_drop : {A : Type 0} (n : ℕ) (xs : List A) (k : ℕ) → slice_get (drop n xs) k ≡ slice_get xs (n + k)
get_drop zero xs k = ap (slice_get xs) {x = k} {y = 0 + k} (omega arith)
get_drop (suc n) [] k = refl
get_drop (suc n) (x ∷ xs) k = get_drop n xs k ∙ ap (slice_get (x ∷ xs)) {x = suc (n + k)} {y = suc n + k} (omega arith)

-- a place in a list that has one more is an old one, or that of the one more
last_or : {A : Type 0} (xs : List A) (y : A) (k : ℕ) (z : A) → slice_get (xs ++ y ∷ []) k ≡ Some z → (slice_get xs k ≡ Some z) ⊎ (y ≡ z)
last_or [] y zero z is = inr (same_Some _ _ is)
last_or [] y (suc k) z is = absurd (none-some z is)
last_or (x ∷ xs) y zero z is = inl is
last_or (x ∷ xs) y (suc k) z is = last_or xs y k z is

-- where all are expected, each is
each_expected : (ts : List ℕ) (notes : List Note) (t : ℕ) → are_expected ts notes ≡ true → is_one_of t ts ≡ true → is_expected t notes ≡ true
each_expected [] notes t all own = absurd (false≢true own)
each_expected (u ∷ us) notes t all own = let parts = and_parts (is_expected u notes) (are_expected us notes) all in elim (cases_Bool (u == t)) [
  | inl same ↦ subst (λ (n : ℕ). is_expected n notes ≡ true) (eqb-true u t same) parts.0
  | inr apart ↦ each_expected us notes t parts.1 (ap (λ (b : Bool). if b then true else is_one_of t us) (sym apart) ∙ own)
]

-- The same points wait for the same tickets.

awaits_still : (v w : StoreParts) → AwaitsTheSame v w → (p t : ℕ) → awaited_in v p t → awaited_in w p t
awaits_still v w same p t a = record {
  going = same.stopped ∙ a.going;
  place = a.place;
  committed = a.committed;
  is = ap (λ (cs : List Committed). slice_get cs a.place) same.committed ∙ a.is;
  number = omega (arith, a.number, same.first);
  own = a.own;
}

pub awaited_same : (v w : StoreParts) → AwaitsTheSame v w → (p t : ℕ) → awaited_in w p t ↔ awaited_in v p t
awaited_same v w same p t = (
  λ is. awaits_still w v (record { stopped = sym same.stopped; first = sym same.first; committed = sym same.committed }) p t is,
  λ is. awaits_still v w same p t is,
)

-- what points wait for is this then
pub same_awaited : (v w : StoreParts) → AwaitsTheSame v w → awaited_in w ≡ awaited_in v
same_awaited v w same = λ i. IsAwaited (same.stopped i) (same.first i) (same.committed i)

-- A call of the pipeline.

-- where some of the records have gone, points wait for no other tickets
lost_awaits : (v w : StoreParts) (p t : ℕ) → LosesCommitted v.pipeline w.pipeline → w.first ≡ v.first → v.stopped ≡ false → awaited_in w p t → awaited_in v p t
lost_awaits v w p t lost first going a = record {
  going = going;
  place = lost.count + a.place;
  committed = a.committed;
  is = sym (get_drop lost.count v.pipeline.committed.items a.place) ∙ ap (λ (cs : List Committed). slice_get cs a.place) (sym lost.left) ∙ a.is;
  number = omega (arith, a.number, first);
  own = a.own;
}

-- so it is behind a call of the pipeline, where nothing is waited for any more if the disk failed
pub called_awaits : (result : Result (Unit {0}) DiskFault) (v w u : StoreParts) → OnOk result (LosesCommitted v.pipeline w.pipeline) → u.pipeline ≡ w.pipeline → u.first ≡ v.first → u.stopped ≡ is_err result → v.stopped ≡ false → (p t : ℕ) → awaited_in u p t → awaited_in v p t
called_awaits (Ok a) v w u lost same first stops going p t is = lost_awaits v u p t (record { count = lost.count; left = ap (λ (q : Pipeline). q.committed.items) same ∙ lost.left }) first going is
called_awaits (Err x) v w u lost same first stops going p t is = absurd (false≢true (sym is.going ∙ stops))

-- A commit.

-- a ticket of the records with the new one is an old one's, or the new one's
record_or : (number : ℕ) (tickets : List ℕ) (v w : Pipeline) (k t : ℕ) (c : Committed) → JoinsCommitted number tickets v w → slice_get w.committed.items k ≡ Some c → is_one_of t c.tickets.items ≡ true → (slice_get v.committed.items k ≡ Some c) ⊎ ((c.number ≡ number) × (is_one_of t tickets ≡ true))
record_or number tickets v w k t c joins is own = ⊎_elim inl (λ same. inr (ap (λ (d : Committed). d.number) (sym same) ∙ joins.number_is, subst (λ (ts : List ℕ). is_one_of t ts ≡ true) (ap (λ (d : Committed). d.tickets.items) (sym same) ∙ joins.tickets_are) own))
    (last_or v.committed.items joins.committed k c (ap (λ (cs : List Committed). slice_get cs k) (sym joins.joined) ∙ is))

-- the point that a commit makes waits for its record's tickets, which are new
pub joined_awaits : (number : ℕ) (ws : List (ℕ × List ℕ)) (tickets : List ℕ) (v w : StoreParts) (old new : List Event) → JoinsCommitted number tickets v.pipeline w.pipeline → AddsWrites ws tickets old new → number ≡ v.first + v.point → w.first ≡ v.first → v.stopped ≡ false
    → (p t : ℕ) → awaited_in w p t → awaited_in v p t ⊎ ((v.point < p) × (is_accepted t old ≡ false))
joined_awaits number ws tickets v w old new joins adds next first going p t a =
    ⊎_elim (λ was. inl (record { going = going; place = a.place; committed = a.committed; is = was; number = omega (arith, a.number, first); own = a.own }))
    (λ late. inr (omega (arith, a.number, first, late.0, next), (new_ticket ws tickets old new t adds late.1).write))
    (record_or number tickets v.pipeline w.pipeline a.place t a.committed joins a.is a.own)

-- of the tickets that they expect the notes know as much as came
pub joined_heard : (number : ℕ) (ws : List (ℕ × List ℕ)) (tickets : List ℕ) (v w : Pipeline) (old new : List Event) → GrowsByWrites old new → JoinsCommitted number tickets v w → AddsWrites ws tickets old new → HearsAll old v → HearsAll new w
joined_heard number ws tickets v w old new grows joins adds heard t expected came =
    let was : IsNoticed t old = noticed_before t old new grows came in
    joins.noticed t ∙ ⊎_elim (λ late. absurd ((new_ticket ws tickets old new t adds late).notice was)) (λ before. heard t before was) (or_cases (is_one_of t tickets) (is_expected t v.notes.notes) (sym (joins.expected t) ∙ expected))

-- What is known of the points that wait.

-- the point is behind the floor, and no later than the last one
pub awaited_point : (v : StoreParts) (p t : ℕ) → IsGoing v → awaited_in v p t → (v.floor < p) × (p ≤ v.point)
awaited_point v p t g a = let at = number_at v.pipeline g.sound.order a.place a.committed a.is in let upto = number_upto v.pipeline g.sound.order a.place a.committed a.is in (omega (arith, at, a.number, g.floor), omega (arith, upto, a.number, g.number))

-- the ticket was given
pub awaited_given : (v : StoreParts) (log : List Event) (p t : ℕ) → OpenAreExpected v.pipeline → NotesAreGiven log v.pipeline.notes.notes → awaited_in v p t → IsAccepted t log
awaited_given v log p t expected given a = given t (each_expected a.committed.tickets.items v.pipeline.notes.notes t (expected.records a.place a.committed a.is) a.own)

-- some point waits for a record's ticket
awaited_record : (v : StoreParts) (upto n t : ℕ) → upto + 1 ≡ v.first + n → IsGoing v → v.stopped ≡ false → IsOfRecord v.pipeline upto t → (p : ℕ) × (1 ≤ p) × (p ≤ n) × awaited_in v p t
awaited_record v upto n t same g going of = (of.committed.number + 1 - v.first, omega (arith, number_at v.pipeline g.sound.order of.place of.committed of.is, g.floor), omega (arith, of.within, same), record { going = going; place = of.place; committed = of.committed; is = of.is; number = omega (arith, number_at v.pipeline g.sound.order of.place of.committed of.is, g.floor); own = of.own })

-- so the notices that came are of tickets that points waited for, where they are those of records' tickets
pub waited_hears : (v w : StoreParts) (d e : State) (ticks later upto n : ℕ) → upto + 1 ≡ v.first + n → IsGoing v → v.stopped ≡ false → ((t : ℕ) → IsNoticed t e.log → IsNoticed t d.log ⊎ IsOfRecord v.pipeline upto t) → blocks.HearsUpTo n (store_state v ticks d) (store_state w later e)
waited_hears v w d e ticks later upto n same g going only t came = ⊎_elim (λ was. inl was) (λ of. inr ∣ awaited_record v upto n t same g going of ∣₁) (only t came)

-- where the floor isn't the last point, the next one waits for a ticket still
pub still_awaits : (v : StoreParts) (ticks : ℕ) (d : State) → IsGoing v → v.stopped ≡ false → is_first_settled v.pipeline.committed.items v.pipeline.notes.notes ≡ false → (d.manner.waits_alone ≡ true → HearsAll d.log v.pipeline) → v.floor < v.point → blocks.StillAwaits (store_state v ticks d) (v.floor + 1)
still_awaits v ticks d g going due heard below = record {
  ticket = first.2.0;
  awaits = record { going = going; place = 0; committed = first.0; is = first.1; number = omega (arith, number_at v.pipeline g.sound.order 0 first.0 first.1, g.floor); own = first.2.1 };
  not_yet = λ alone came. false≢true (sym (not_true (is_noticed first.2.0 v.pipeline.notes.notes) (and_parts (is_expected first.2.0 v.pipeline.notes.notes) (not (is_noticed first.2.0 v.pipeline.notes.notes)) first.2.2).1) ∙ heard alone first.2.0 (and_parts (is_expected first.2.0 v.pipeline.notes.notes) (not (is_noticed first.2.0 v.pipeline.notes.notes)) first.2.2).0 came);
}
  where
    first : (c : Committed) × (slice_get v.pipeline.committed.items 0 ≡ Some c) × ((t : ℕ) × (is_one_of t c.tickets.items ≡ true) × (is_open t v.pipeline.notes.notes ≡ true))
    first = first_of v.pipeline g.sound.order due (omega (arith, g.number, g.floor, below))

    not_true : (x : Bool) → not x ≡ true → x ≡ false
    not_true true e = absurd (false≢true e)
    not_true false e = refl
