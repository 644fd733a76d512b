-- The header that is due is the next one of the ledger, it can be written, and it reads back; what its write leaves.
use Rattle.std.proofs.Common.{◌≡◌, inl, inr, ⊎_elim, ℕ, ◌+◌, ◌-◌, ◌%◌, ◌<◌, ◌^◌, Bool, true, false, List, [], ◌∷◌, ◌++◌, length, take, slice_get, Some, None, Result, Ok, Err, IsErr, refl, sym, ◌∙◌, subst, ap, arith, take_all, length-append}
use Rattle.std.proofs.lemmas.Bool.Decides.{nat_tests}
use Rattle.std.proofs.Math.Nat.{mod-lt}
use Rattle.std.proofs.lemmas.Bool.{false≢true}
use Rattle.std.proofs.lemmas.List.{length-map}
use Rattle.base_types.specs.Seal.{Blocks}
use Rattle.disk_contract.specs.declared.event.Event.{Event}
use Rattle.disk_contract.specs.declared.event.Event.TheVariants.{Wrote, Lost}
use Rattle.disk_contract.specs.declared.disk.DiskFault.{DiskFault}
use Rattle.disk_contract.specs.Disk.{State, AddsWrite}
use Rattle.layout_geometry.specs.Geometry.{Geometry}
use Rattle.layout_journal.specs.declared.header.Header.{Header}
use Rattle.layout_journal.specs.Layout.{header_of, IsWithinDisk}
use Rattle.layout_journal.specs.Ring.{RingPlaces}
use Rattle.layout_journal.specs.Run.{Record, places, place_after}
use Rattle.layout_journal.specs.Spelling.{IsHeader, fits_in, header_block}
use Rattle.crash_argument.specs.Ledger.{Ledger, WrittenRecord, IsConsistentWith, FitsRecords, all_say}
use Rattle.crash_argument.specs.Points.{MountedSession, IsSafe, HeaderWritten}
use Rattle.crash_argument.specs.PipelineData.{next_header}
use Rattle.engine_running.specs.declared.commit.Committed.{Committed}
use Rattle.engine_running.specs.declared.states.Durable.{Durable}
use Rattle.engine_running.specs.declared.states.Sure.{Sure}
use Rattle.engine_checkpoint.specs.declared.pipeline.Pending.{Pending}
use Rattle.engine_checkpoint.specs.declared.pipeline.Pipeline.{Pipeline}
use Rattle.engine_checkpoint.specs.Agree.{PipelineAgrees, IsRecordAt, durable_count}
use Rattle.engine_checkpoint.specs.Kept.{numbers}
use Rattle.engine_checkpoint.specs.Order.{IsInOrder}
use Rattle.engine_checkpoint.specs.Turns.{HeaderMade, AddsHeader, is_header_due, first_sure, first_durable, first_committed, place_behind_placed, due_header}

-- where a header is due, none is pending
pub none_pending : (v : Pipeline) → is_header_due v ≡ true → v.next ≡ None
none_pending v due = grind (arith, nat_tests)

-- the place of the first of these records is the one that it has to be
first_place : (ss : List Sure) (ds : List Durable) (cs : List Committed) (next at : ℕ) → ((s : Sure) → slice_get ss 0 ≡ Some s → s.place ≡ at) → (length ss ≡ 0 → (d : Durable) → slice_get ds 0 ≡ Some d → d.place ≡ at)
    → (length ss ≡ 0 → length ds ≡ 0 → (c : Committed) → slice_get cs 0 ≡ Some c → c.place ≡ at) → (length ss ≡ 0 → length ds ≡ 0 → length cs ≡ 0 → next ≡ at) → first_sure ss (first_durable ds (first_committed cs next)) ≡ at
first_place [] [] [] next at sure durable committed none = none refl refl refl
first_place [] [] (c ∷ cs) next at sure durable committed none = committed refl refl c refl
first_place [] (d ∷ ds) cs next at sure durable committed none = durable refl d refl
first_place (s ∷ ss) ds cs next at sure durable committed none = sure s refl

-- a place behind records is one of the ring
place_below : (j p : ℕ) (rs : List Record) → 0 < j → p < j → place_after j p rs < j
place_below j p [] some lt = lt
place_below j p (r ∷ rs) some lt = place_below j ((p + places r) % j) rs some (mod-lt (p + places r) some)

-- headers with the same fields are one
same_header : (h k : Header) → h.epoch ≡ k.epoch → h.turn ≡ k.turn → h.start ≡ k.start → h.sure ≡ k.sure → h.at ≡ k.at → h.closed ≡ k.closed → h.geom ≡ k.geom → h ≡ k
same_header h k epoch turn start sure at closed geom = grind (arith, nat_tests)

-- how many numbers there are
pub count_numbers : (v : Pipeline) → length (numbers v) ≡ durable_count v + length v.committed.items
count_numbers v = grind (arith, nat_tests, length-append, length-map)

module _ (base : Blocks) (log : List Event) (l : Ledger) (v : Pipeline) (ring : RingPlaces) (waiting : List (ℕ × ℕ)) (taken : List ℕ) (a : PipelineAgrees base log l v ring waiting taken) (keeps : IsConsistentWith base log l)
    -- each record has the place that follows from those before it
    (stand : (k : ℕ) (w : WrittenRecord) → slice_get l.records k ≡ Some w → w.says.place ≡ place_after l.geom.j l.header.at (all_say (take k l.records))) where
  fits : FitsRecords l l.header
  fits = keeps.headers.fits l.header (inl refl)

  abbrev behind : ℕ
  behind = place_after l.geom.j l.header.at (all_say (take (length v.placed.items) l.records))

  -- the record right behind the placed ones
  here : (k number place count : ℕ) (payloads : List Rattle.engine_running.specs.declared.put.Put.Put) (fresh own : List ℕ) → k ≡ length v.placed.items → IsRecordAt l a.freed k number place count payloads fresh own → place ≡ behind
  here k number place count payloads fresh own e r = sym r.keeps.place_is ∙ stand k r.written r.is ∙ ap (λ n. place_after l.geom.j l.header.at (all_say (take n l.records))) e

  place_is : place_behind_placed v ring ≡ behind
  place_is = first_place v.sure.items v.durable.items v.committed.items ring.next behind
      (λ s is. here _ s.number s.place s.count s.payloads.items s.fresh.items s.freed.items (omega arith) (a.sure_at 0 s is))
      (λ none d is. here _ d.number d.place d.count d.payloads.items d.fresh.items d.freed.items (omega (arith, none)) (a.durable_at 0 d is))
      (λ none no c is. here _ c.number c.place c.count c.payloads.items c.fresh.items c.freed.items (omega (arith, none, no)) (a.committed_at 0 c is))
      (λ none no nor. a.agree.next_place ∙ ap (λ (ws : List WrittenRecord). place_after l.geom.j l.header.at (all_say ws)) (sym (take_all (length v.placed.items) l.records (omega (arith, a.count, none, no, nor)))))

  pub due_is : due_header v ring ≡ next_header l (length v.placed.items)
  due_is = same_header (due_header v ring) (next_header l (length v.placed.items)) (ap (λ (h : Header). h.epoch) a.header ∙ fits.epoch) (ap (λ (h : Header). h.turn + 1) a.header) (ap (λ (h : Header). h.start + length v.placed.items) a.header)
      (ap (λ (h : Header). h.start + durable_count v - 1) a.header ∙ ap (λ n. n - 1) (sym a.known)) place_is refl a.geom

  -- its numbers fit their bytes, and it reads back
  module _ (within : IsWithinDisk l.geom.n l.header) (order : IsInOrder v) (epoch : v.header.epoch < 2 ^ 64) (turn : v.header.turn < 2 ^ 64 - 1) (last : v.last < 2 ^ 64 - 1)
      (reads : (h : Header) → IsHeader h → header_of h.geom.n (header_block h) ≡ Some h) where
    fits8 : (n : ℕ) → n < 2 ^ 64 → fits_in 8 n
    fits8 n lt = omega arith

    can_be_written : IsHeader (due_header v ring)
    can_be_written = grind (arith, nat_tests, fits8, count_numbers, place_is, place_below, fits)

    pub due_reads : header_of l.geom.n (header_block (due_header v ring)) ≡ Some (next_header l (length v.placed.items))
    due_reads = ap (λ (g : Geometry). header_of g.n (header_block (due_header v ring))) (sym a.geom) ∙ reads (due_header v ring) can_be_written ∙ ap Some due_is

-- What the write adds to the log.

pub adds_lost : {A E F : Type 0} (due : Bool) (r : Result A E) (f : F) (v w : Pipeline) (ring : RingPlaces) (slot : ℕ) (x : List ℕ) (old new : List Event) → due ≡ true → IsErr r → slot ≡ 1 - v.slot → x ≡ header_block (due_header v ring) → AddsWrite {E = F} slot x (Err f) old new → AddsHeader due r v w ring old new
adds_lost false r f v w ring slot x old new e err at is adds = absurd (false≢true e)
adds_lost true (Ok b) f v w ring slot x old new e err at is adds = absurd (false≢true err)
adds_lost true (Err g) f v w ring slot x old new e err at is adds = ⊎_elim inl (λ lost. inr (lost ∙ ap (λ s. old ++ Lost s x ∷ []) at ∙ ap (λ y. old ++ Lost (1 - v.slot) y ∷ []) is)) adds

pub adds_wrote : (A E F : Type 0) (due : Bool) (b : A) (v w : Pipeline) (ring : RingPlaces) (slot t : ℕ) (x : List ℕ) (q : Pending) (old new : List Event) → due ≡ true → w.next ≡ Some q → q.ticket ≡ t → slot ≡ 1 - v.slot → x ≡ header_block (due_header v ring) → AddsWrite {E = F} slot x (Ok t) old new → AddsHeader {A = A} {E = E} due (Ok b) v w ring old new
adds_wrote A E F false b v w ring slot t x q old new e is_next same at is adds = absurd (false≢true e)
adds_wrote A E F true b v w ring slot t x q old new e is_next same at is adds = (q, is_next, subst (λ u. AddsWrite {E = DiskFault} (1 - v.slot) (header_block (due_header v ring)) (Ok u) old new) (sym same) (adds.0, adds.1, adds.2 ∙ ap (λ s. old ++ Wrote t s x ∷ []) at ∙ ap (λ y. old ++ Wrote t (1 - v.slot) y ∷ []) is))

-- where it failed, the disk is safe with the header or without it
pub header_failed : {A E F : Type 0} (r : Result A E) (f : F) (s : MountedSession) (old new : State) (l : Ledger) (h : Header) (t floor : ℕ) (v w : Pipeline) (ring : RingPlaces) (waiting : List (ℕ × ℕ)) (taken : List ℕ) → IsErr r → due_header v ring ≡ h → HeaderWritten {E = F} s l h t floor (Err f) old new
    → HeaderMade r s new l t floor v w ring waiting taken
header_failed (Ok b) f s old new l h t floor v w ring waiting taken err is made = absurd (false≢true err)
header_failed (Err g) f s old new l h t floor v w ring waiting taken err is made = ⊎_elim (λ same. inl same.1) (λ more. inr (subst (λ (k : Header). IsSafe s new.base new.log (Rattle.crash_argument.specs.Steps.with_header l k) t floor) (sym is) more)) made
