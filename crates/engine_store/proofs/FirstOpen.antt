-- The oldest committed record has an open ticket: behind a commit, since the tickets of its record are new, and behind a wait for all records, since no record is committed then. Where the floor isn't the last point, it is the record of the point behind the floor.
use Rattle.std.proofs.Common.{◌≡◌, ℕ, zero, suc, ◌+◌, ◌<◌, ◌≤◌, ◌==◌, ◌&&◌, not, if◌then◌else◌, Bool, true, false, List, [], ◌∷◌, ◌++◌, length, map, option_map, slice_get, Some, Result, Ok, Err, OnOk, refl, sym, ◌∙◌, ap, subst, arith, length-append, append_assoc, inl, inr}
use Rattle.std.proofs.lemmas.Bool.{and_from, and_parts, eq-eqb, eqb-true, false_from_ne_true, false≢true, or_left, or_right, and_right, cases_Bool}
use Rattle.std.proofs.lemmas.List.{length-map, map-append}
use Rattle.std.proofs.lemmas.Option.{none-some, same_Some, slice_get-map}
use Rattle.std.specs.List.{range_with_len}
use Rattle.disk_contract.specs.declared.disk.DiskFault.{DiskFault}
use Rattle.disk_contract.specs.declared.event.Event.{Event}
use Rattle.crash_argument.specs.HomeTest.{is_one_of}
use Rattle.crash_argument.specs.Writes.{AddsWrites}
use Rattle.engine_notes.specs.declared.notes.Note.{Note}
use Rattle.engine_notes.specs.Notes.{is_expected, is_noticed, is_open, none_open}
use Rattle.engine_running.specs.declared.commit.Committed.{Committed}
use Rattle.engine_reuse.specs.Dead.{DeadBlocks}
use Rattle.engine_checkpoint.specs.declared.pipeline.Pipeline.{Pipeline}
use Rattle.engine_checkpoint.specs.Advance.{IsDrained, NothingIsDue}
use Rattle.engine_checkpoint.specs.Agree.{NotesAreTrue, durable_count}
use Rattle.engine_checkpoint.specs.Kept.{number_of, numbers, of_committed, of_durable, of_sure, placed_number}
use Rattle.engine_checkpoint.specs.Order.{IsInOrder}
use Rattle.engine_checkpoint.specs.Steps.{Accepts, is_first_settled}
use Rattle.engine_store.proofs.NextRecord.{numbers_len}

-- Open tickets.

later : (x y : Bool) → y ≡ true → (if x then true else y) ≡ true
later true y s = refl
later false y s = s

-- of tickets that aren't all shut, one is open
one_open : (ts : List ℕ) (notes : List Note) → none_open ts notes ≡ false → (t : ℕ) × (is_one_of t ts ≡ true) × (is_open t notes ≡ true)
one_open [] notes e = absurd (false≢true (sym e))
one_open (t ∷ ts) notes e = elim (cases_Bool (is_open t notes)) [
  | inl is ↦ (t, ap (λ (b : Bool). if b then true else is_one_of t ts) (eq-eqb t t refl), is)
  | inr is ↦ (let rest = one_open ts notes (ap (λ (b : Bool). not b && none_open ts notes) (sym is) ∙ e) in (rest.0, later (t == rest.0) (is_one_of rest.0 ts) rest.1, rest.2))
]

-- tickets of which one is open aren't all shut
some_open : (t : ℕ) (ts : List ℕ) (notes : List Note) → is_one_of t ts ≡ true → is_open t notes ≡ true → none_open ts notes ≡ false
some_open t [] notes own is = absurd (false≢true own)
some_open t (u ∷ us) notes own is = elim (cases_Bool (u == t)) [
  | inl same ↦ ap (λ (b : Bool). not b && none_open us notes) (subst (λ (n : ℕ). is_open n notes ≡ true) (sym (eqb-true u t same)) is)
  | inr apart ↦ and_right (not (is_open u notes)) (none_open us notes) (some_open t us notes (ap (λ (b : Bool). if b then true else is_one_of t us) (sym apart) ∙ own) is)
]

-- Behind a commit.

-- a record has tickets, each of which is new
has_ticket : (ws : List (ℕ × List ℕ)) (ts : List ℕ) (old new : List Event) (notes : List Note) → 0 < length ws → AddsWrites ws ts old new → NotesAreTrue old notes → (t : ℕ) × (is_one_of t ts ≡ true) × (is_noticed t notes ≡ false)
has_ticket [] ts old new notes some adds known = absurd (omega (arith, some))
has_ticket (w ∷ ws) [] old new notes some adds known = absurd adds
has_ticket (w ∷ ws) (t ∷ ts) old new notes some adds known = (t, ap (λ (b : Bool). if b then true else is_one_of t ts) (eq-eqb t t refl), false_from_ne_true (is_noticed t notes) (λ seen. adds.1 (known t seen)))

module _ (c : Committed) (v w : Pipeline) (a : Accepts c v w) where
  -- what was open is so still
  open_more : (t : ℕ) → is_open t v.notes.notes ≡ true → is_open t w.notes.notes ≡ true
  open_more t is =
      let parts = and_parts (is_expected t v.notes.notes) (not (is_noticed t v.notes.notes)) is in
      and_from (is_expected t w.notes.notes) (not (is_noticed t w.notes.notes)) (a.expected t ∙ or_right (is_one_of t c.tickets.items) (is_expected t v.notes.notes) parts.0) (ap (λ (b : Bool). not b) (a.noticed t) ∙ parts.1)

  -- and so is a new ticket of the record
  open_new : (t : ℕ) → is_one_of t c.tickets.items ≡ true → is_noticed t v.notes.notes ≡ false → is_open t w.notes.notes ≡ true
  open_new t own none = and_from (is_expected t w.notes.notes) (not (is_noticed t w.notes.notes)) (a.expected t ∙ or_left (is_one_of t c.tickets.items) (is_expected t v.notes.notes) own) (ap (λ (b : Bool). not b) (a.noticed t ∙ none))

  pub due_then : (ws : List (ℕ × List ℕ)) (old new : List Event) → 0 < length ws → AddsWrites ws c.tickets.items old new → NotesAreTrue old v.notes.notes → is_first_settled v.committed.items v.notes.notes ≡ false → is_first_settled w.committed.items w.notes.notes ≡ false
  due_then ws old new some adds known due = ap (λ (cs : List Committed). is_first_settled cs w.notes.notes) a.committed ∙ by v.committed.items due
    where
      by : (cs : List Committed) → is_first_settled cs v.notes.notes ≡ false → is_first_settled (cs ++ c ∷ []) w.notes.notes ≡ false
      by [] e = let own = has_ticket ws c.tickets.items old new v.notes.notes some adds known in some_open own.0 c.tickets.items w.notes.notes own.1 (open_new own.0 own.1 own.2)
      by (d ∷ ds) e = let was = one_open d.tickets.items v.notes.notes e in some_open was.0 d.tickets.items w.notes.notes was.1 (open_more was.0 was.2)

-- Behind a call of the pipeline.

-- an advance leaves nothing due
pub due_advanced : (result : Result (Unit {0}) DiskFault) (old v : Pipeline) → OnOk result (NothingIsDue old v) → OnOk result (is_first_settled v.committed.items v.notes.notes ≡ false)
due_advanced (Ok a) old v due = due.durable
due_advanced (Err x) old v due = tt

-- a drain leaves no record
pub due_drained : (result : Result (Unit {0}) DiskFault) (v : Pipeline) (dead : DeadBlocks) → OnOk result (IsDrained v dead) → OnOk result (is_first_settled v.committed.items v.notes.notes ≡ false)
due_drained (Ok a) v dead drained = ap (λ (cs : List Committed). is_first_settled cs v.notes.notes) drained.committed
due_drained (Err x) v dead drained = tt

-- Which record it is.

-- the number at a place of a row
in_row : (a n k y : ℕ) → slice_get (range_with_len a n) k ≡ Some y → (y ≡ a + k) × (k < n)
in_row a zero k y e = absurd (none-some y e)
in_row a (suc n) zero y e = (omega (arith, same_Some a y e), omega arith)
in_row a (suc n) (suc k) y e = let rest = in_row (a + 1) n k y e in (omega (arith, rest.0), omega (arith, rest.1))

-- a place behind others
get_behind : {A : Type 0} (xs ys : List A) (k : ℕ) → slice_get (xs ++ ys) (length xs + k) ≡ slice_get ys k
get_behind [] ys k = ap (slice_get ys) {x = 0 + k} {y = k} (omega arith)
get_behind (x ∷ xs) ys k = ap (slice_get (x ∷ (xs ++ ys))) {x = suc (length xs) + k} {y = suc (length xs + k)} (omega arith) ∙ get_behind xs ys k

-- the numbers before those of the committed records
abbrev before : Pipeline → List ℕ
before v = map placed_number v.placed.items ++ (map number_of (map of_sure v.sure.items) ++ map number_of (map of_durable v.durable.items))

before_len : (v : Pipeline) → length (before v) ≡ durable_count v
before_len v = omega (
  arith,
  length-append (map placed_number v.placed.items) (map number_of (map of_sure v.sure.items) ++ map number_of (map of_durable v.durable.items)),
  length-append (map number_of (map of_sure v.sure.items)) (map number_of (map of_durable v.durable.items)),
  length-map v.placed.items placed_number,
  length-map (map of_sure v.sure.items) number_of,
  length-map (map of_durable v.durable.items) number_of,
  length-map v.sure.items of_sure,
  length-map v.durable.items of_durable,
)

apart : (v : Pipeline) → before v ++ map number_of (map of_committed v.committed.items) ≡ numbers v
apart v =
    append_assoc (map placed_number v.placed.items) (map number_of (map of_sure v.sure.items) ++ map number_of (map of_durable v.durable.items)) (map number_of (map of_committed v.committed.items))
    ∙ ap (λ (xs : List ℕ). map placed_number v.placed.items ++ xs)
    (append_assoc (map number_of (map of_sure v.sure.items)) (map number_of (map of_durable v.durable.items)) (map number_of (map of_committed v.committed.items))
    ∙ ap (λ (xs : List ℕ). map number_of (map of_sure v.sure.items) ++ xs) (sym (map-append number_of (map of_durable v.durable.items) (map of_committed v.committed.items)))
    ∙ sym (map-append number_of (map of_sure v.sure.items) (map of_durable v.durable.items ++ map of_committed v.committed.items)))

-- the number at a place of the committed records
at_place : (v : Pipeline) → IsInOrder v → (k : ℕ) (c : Committed) → slice_get v.committed.items k ≡ Some c → (c.number ≡ v.header.start + (length (before v) + k)) × (length (before v) + k < length (numbers v))
at_place v order k c is = in_row v.header.start (length (numbers v)) (length (before v) + k) c.number
    (ap (λ (ns : List ℕ). slice_get ns (length (before v) + k)) (sym (apart v ∙ order.numbers_are))
    ∙ get_behind (before v) (map number_of (map of_committed v.committed.items)) k
    ∙ slice_get-map number_of (map of_committed v.committed.items) k
    ∙ ap (option_map number_of) (slice_get-map of_committed v.committed.items k ∙ ap (option_map of_committed) is))

-- they have the numbers behind the last durable one's, in a row
pub number_at : (v : Pipeline) → IsInOrder v → (k : ℕ) (c : Committed) → slice_get v.committed.items k ≡ Some c → c.number ≡ v.header.start + durable_count v + k
number_at v order k c is = omega (arith, (at_place v order k c is).0, before_len v)

-- and none is above the last number
pub number_upto : (v : Pipeline) → IsInOrder v → (k : ℕ) (c : Committed) → slice_get v.committed.items k ≡ Some c → c.number ≤ v.last
number_upto v order k c is = omega (arith, (at_place v order k c is).0, (at_place v order k c is).1, order.last)

-- a record whose point is behind the floor is committed, and the oldest such one has an open ticket
pub first_of : (v : Pipeline) → IsInOrder v → is_first_settled v.committed.items v.notes.notes ≡ false → v.header.start + durable_count v ≤ v.last → (c : Committed) × (slice_get v.committed.items 0 ≡ Some c) × ((t : ℕ) × (is_one_of t c.tickets.items ≡ true) × (is_open t v.notes.notes ≡ true))
first_of v order due more = by v.committed.items refl due
  where
    by : (cs : List Committed) → v.committed.items ≡ cs → is_first_settled cs v.notes.notes ≡ false → (c : Committed) × (slice_get v.committed.items 0 ≡ Some c) × ((t : ℕ) × (is_one_of t c.tickets.items ≡ true) × (is_open t v.notes.notes ≡ true))
    by [] is e = absurd (omega (arith, order.last, numbers_len v, more, ap (λ (xs : List Committed). length xs) is))
    by (c ∷ cs) is e = (c, ap (λ (ks : List Committed). slice_get ks 0) is, one_open c.tickets.items v.notes.notes e)
