-- The sure records have become the batch, and all its checkpoint writes are made.
use Rattle.std.proofs.Common.{◌≡◌, ℕ, ◌<◌, ◌≤◌, ◌||◌, nat_lt, Bool, List, [], map, length, inr, ⊎_elim, Result, Ok, Err, OnOk, refl, sym, ◌∙◌, subst, ap, arith}
use Rattle.std.proofs.lemmas.Bool.{lt-ltb, cond-true}
use Rattle.std.proofs.lemmas.Option.{none-some}
use Rattle.base_types.specs.Seal.{Blocks}
use Rattle.disk_contract.specs.declared.event.Event.{Event}
use Rattle.disk_contract.specs.Cell.{greatest_ticket, IsNoticed}
use Rattle.layout_journal.specs.Ring.{RingPlaces}
use Rattle.crash_argument.specs.Ledger.{Ledger}
use Rattle.crash_argument.specs.PipelineData.{PipelineData, with_batch, with_sent}
use Rattle.crash_argument.specs.Writes.{AddsWrites, AddsAll}
use Rattle.crash_argument.specs.HomeTest.{is_one_of}
use Rattle.engine_notes.specs.Notes.{is_expected}
use Rattle.engine_checkpoint.specs.declared.pipeline.Pipeline.{Pipeline}
use Rattle.engine_checkpoint.specs.Agree.{PipelineAgrees, AreExpectedHome, AreNewTickets, data_of, home_pair, home_ticket}
use Rattle.engine_checkpoint.specs.HomeState.{HomeState, with_homes}
use Rattle.engine_checkpoint.specs.Turns.{BeginsBatch}
use Rattle.engine_checkpoint.proofs.Apart.{not_old, one_of_home, one_or, new_tickets}
use Rattle.engine_checkpoint.proofs.Expected.{ExpectMore, are_more, with_old}

module _ (base : Blocks) (old new : List Event) (l : Ledger) (v : Pipeline) (ring : RingPlaces) (waiting : List (ℕ × ℕ)) (taken : List ℕ) (a : PipelineAgrees base old l v ring waiting taken)
    (some : 0 < length v.sure.items) (w : Pipeline) (e : BeginsBatch v w)
    -- notices stay, and the batch's tickets are new
    (stays : (t : ℕ) → IsNoticed t old → IsNoticed t new)
    (fresh : AreNewTickets old new (map home_ticket w.home.items))
    -- all of the disk is looked at
    (home : HomeState base new l (with_sent (record (with_batch (data_of v ring waiting) (length v.sure.items)) { home = map home_pair w.home.items }) v.geom.n) a.freed taken) where
  abbrev count : ℕ
  count = length v.sure.items

  abbrev on_its_way : Pipeline
  on_its_way = record v { notes = w.notes; batch = count; home = w.home; batch_newest = w.batch_newest; blocks = w.blocks }

  data_is : with_sent (record (with_batch (data_of v ring waiting) count) { home = map home_pair w.home.items }) v.geom.n ≡ data_of on_its_way ring waiting
  data_is = ap (λ n. record (data_of on_its_way ring waiting) { sent = n }) (sym (cond-true (nat_lt 0 count) v.geom.n 0 (lt-ltb 0 count some)))

  -- what was expected is so still, and so are the batch's tickets
  expect : ExpectMore v.notes.notes w.notes.notes
  expect u is = e.expected u ∙ with_old (is_one_of u (map home_ticket w.home.items)) (is_expected u v.notes.notes) is

  expected : AreExpectedHome w.home.items w.notes.notes
  expected k h is = e.expected h.ticket ∙ ap (λ (b : Bool). b || is_expected h.ticket v.notes.notes) (one_of_home w.home.items k h is)

  later : (t : ℕ) → t ≤ greatest_ticket old → t ≤ greatest_ticket new
  later t upto = omega (arith, upto, fresh.grows)

  above_all : (t : ℕ) → greatest_ticket old < t → t ≤ greatest_ticket old → ⊥
  above_all t lt le = omega (arith, lt, le)

  agrees_then : PipelineAgrees base new l on_its_way ring waiting taken
  agrees_then = record {
    geom = a.geom;
    ring_geom = a.ring_geom;
    slot = a.slot;
    header = a.header;
    next = a.next;
    not_closed = a.not_closed;
    known = a.known;
    count = a.count;
    sure = a.sure;
    batch = omega arith;
    freed = a.freed;
    freed_by = a.freed_by;
    placed_at = a.placed_at;
    sure_at = a.sure_at;
    durable_at = a.durable_at;
    committed_at = a.committed_at;
    agree = subst (Rattle.crash_argument.specs.PipelineData.DataAgree base new l) data_is home.agree;
    notes = λ t seen. stays t (a.notes t (sym (e.noticed t) ∙ seen));
    given = λ t seen. ⊎_elim (λ own. fresh.given t own) (λ was. fresh.stays t (a.given t was)) (one_or (is_one_of t (map home_ticket w.home.items)) (is_expected t v.notes.notes) (sym (e.expected t) ∙ seen));
    expected = record {
      records = λ k c is. are_more c.tickets.items v.notes.notes w.notes.notes expect (a.expected.records k c is);
      home = expected;
      header = λ q is. expect q.ticket (a.expected.header q is);
    };
    apart = record {
      records = a.apart.records;
      beside = λ k t c is held. ⊎_elim (λ r. not_old old v a.apart k t c is (subst (λ n. greatest_ticket old < n) r.3 (fresh.above r.1.ticket (one_of_home w.home.items r.0 r.1 r.2)))) (λ r. a.apart.beside k t c is (inr r)) held;
      header_apart = λ q is k h at same. above_all q.ticket (subst (λ n. greatest_ticket old < n) same (fresh.above h.ticket (one_of_home w.home.items k h at))) (a.apart.beside_upto q.ticket (inr (q, is, refl)));
      records_upto = λ k t c is own. omega (arith, fresh.grows, a.apart.records_upto k t c is own);
      beside_upto = λ t held. ⊎_elim (λ r. subst (λ n. n ≤ greatest_ticket new) r.3 (fresh.upto r.1.ticket (one_of_home w.home.items r.0 r.1 r.2))) (λ r. later t (a.apart.beside_upto t (inr r))) held;
    };
    sent = home.sent;
    free = home.free;
    idle = home.idle;
    one = subst (λ (p : PipelineData). Rattle.crash_argument.specs.OnePending.HasOnePending base new l p []) data_is home.one;
  }

  pub agrees_on_its_way : PipelineAgrees base new l w ring waiting taken
  agrees_on_its_way = subst (λ (x : Pipeline). PipelineAgrees base new l x ring waiting taken) (sym e.rest) agrees_then

-- after the writes, where they were all accepted
pub agrees_or_failed : {A E : Type 0} (base base2 : Blocks) (old new : List Event) (l : Ledger) (v : Pipeline) (ring : RingPlaces) (waiting : List (ℕ × ℕ)) (taken : List ℕ) (a : PipelineAgrees base old l v ring waiting taken) (some : 0 < length v.sure.items) (w : Pipeline) (e : BeginsBatch v w)
    (ws : List (ℕ × List ℕ)) (r : Result A E) (n : ℕ) → base2 ≡ base → n ≡ v.geom.n
    → ((ws : List (ℕ × List ℕ)) (ts : List ℕ) (old new : List Event) (t : ℕ) → AddsWrites ws ts old new → IsNoticed t old → IsNoticed t new)
    → AddsAll ws r [] (map home_ticket w.home.items) old new → OnOk r (HomeState base2 new l (with_homes (with_batch (data_of v ring waiting) (length v.sure.items)) (map home_pair w.home.items) n) a.freed taken) → OnOk r (PipelineAgrees base2 new l w ring waiting taken)
agrees_or_failed base base2 old new l v ring waiting taken a some w e ws (Ok x) n same all stays adds home =
    subst (λ (b : Blocks). PipelineAgrees b new l w ring waiting taken) (sym same)
    (agrees_on_its_way base old new l v ring waiting taken a some w e (λ t. stays ws adds.0 old new t adds.2) (subst (AreNewTickets old new) (sym adds.1) (new_tickets ws adds.0 old new adds.2))
    (subst (λ m. HomeState base new l (with_homes (with_batch (data_of v ring waiting) (length v.sure.items)) (map home_pair w.home.items) m) a.freed taken) all
    (subst (λ (b : Blocks). HomeState b new l (with_homes (with_batch (data_of v ring waiting) (length v.sure.items)) (map home_pair w.home.items) n) a.freed taken) same home)))
agrees_or_failed base base2 old new l v ring waiting taken a some w e ws (Err x) n same all stays adds home = tt

-- The batch begins: its records are taken, and nothing of it is sent.
pub batch_begins : (base : Blocks) (log : List Event) (l : Ledger) (v : Pipeline) (ring : RingPlaces) (waiting : List (ℕ × ℕ)) (taken : List ℕ) (a : PipelineAgrees base log l v ring waiting taken) (count : ℕ) → count ≡ length v.sure.items
    → Rattle.crash_argument.specs.PipelineData.DataAgree base log l (with_batch (data_of v ring waiting) count) → Rattle.crash_argument.specs.OnePending.HasOnePending base log l (with_batch (data_of v ring waiting) count) []
    → HomeState base log l (with_batch (data_of v ring waiting) count) a.freed taken
batch_begins base log l v ring waiting taken a count count_is agree one = record { agree = agree; freed_by = a.freed_by; ends = omega (arith, a.sure, count_is); idle = a.idle; one = one; sent = λ k b t is. absurd (none-some (b, t) is); free = λ b own. ((a.free b own).0, λ k t is. absurd (none-some (b, t) is)) }
