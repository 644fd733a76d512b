-- Each turn has one ticket more that isn't open.
use Rattle.std.proofs.Common.{rules, ◌<◌, get_or, deque_len, ◌≡◌, ◌∙◌, length, slice_get, Some, true, false, Ok, refl, sym, ap, subst, arith, Err}
use Rattle.engine_checkpoint.proofs.WaitRows.{Waits, waits_none, waits_then, waits_failed}
use Rattle.engine_notes.specs.Notes.{is_open}
use Rattle.engine_checkpoint.specs.declared.pipeline.Pipeline.{Pipeline}
use Rattle.engine_checkpoint.proofs.Hears.{record_at, closed_more, none_open_of, ticket_at, ends}
use Rattle.engine_running.specs.declared.commit.Committed.{Committed}
use Rattle.crash_argument.specs.HomeTest.{is_one_of}
use Rattle.std.proofs.lemmas.Option.{same_Some, slice_get_read}
use Rattle.engine_checkpoint.proofs.HeardRecords.{one_at}
use Rattle.engine_checkpoint.proofs.Spent.{none_ok, on_err}
use Rattle.engine_checkpoint.proofs.Given.{given_heard}
use Rattle.engine_checkpoint.proofs.waits.wait_for_record.Goals as goal

pub loop-k-init : goal.loop-k-init
loop-k-init g c = record { waits = waits_none g.D.Disk.tells (λ u. (d : Committed) × (slice_get c.args.pipeline.now.committed.items c.args.at ≡ Some d) × (is_one_of u d.tickets.items ≡ true)) (g.D.Disk.state c.args.disk.now) c.args.pipeline.now; upto = λ c2 is k t lt. absurd (omega (arith, lt)) }

pub loop-k-preserved : goal.loop-k-preserved
loop-k-preserved g c =
    let first : slice_get c.args.pipeline.now.committed.items c.args.at ≡ Some c.index-in-loop-k.result.now = record_at c.args.pipeline.now.committed.items c.args.at c.index-in-loop-k.result.now c.requires (c.index-in-loop-k.ensures ∙ ap (λ (p : Pipeline). get_or p.committed.items c.args.at c.index-in-loop-k.result.now) c.loop-k.invariant.waits.rest) in
    let entry : slice_get c.args.pipeline.now.committed.items c.args.at ≡ Some c.index.result.now = record_at c.args.pipeline.now.committed.items c.args.at c.index.result.now c.requires c.index.ensures in
    let size : c.len-k-end.result ≡ length c.index.result.now.tickets.items = search rules in
    let low : c.loop-k.k < length c.index-in-loop-k.result.now.tickets.items = subst (λ (d : Committed). c.loop-k.k < length d.tickets.items) (same_Some c.index.result.now c.index-in-loop-k.result.now (sym entry ∙ first)) (omega (arith, c.loop-k-test.true, size)) in
    let now : Waits {A = Unit {0}} g.D.Disk.tells (λ u. (u ≡ c.index-ticket.result.now) × (is_open c.index-ticket.result.now c.loop-k.pipeline.notes.notes ≡ true)) (Ok c.in_ok-wait_where_open.field-0) (g.D.Disk.state c.loop-k.disk) (g.D.Disk.state c.wait_where_open.new.disk) c.loop-k.pipeline c.wait_where_open.new.pipeline = record { agrees = c.wait_where_open.ensures.agrees; hears = c.wait_where_open.ensures.hears; rest = c.wait_where_open.ensures.rest; log = c.wait_where_open.ensures.log; spends = c.in_ok-wait_where_open.ensures.spends; only = c.in_ok-wait_where_open.ensures.only } in
    record {
      waits = waits_then (λ u. (d : Committed) × (slice_get c.args.pipeline.now.committed.items c.args.at ≡ Some d) × (is_one_of u d.tickets.items ≡ true)) (λ u. (u ≡ c.index-ticket.result.now) × (is_open c.index-ticket.result.now c.loop-k.pipeline.notes.notes ≡ true)) (Ok c.in_ok-wait_where_open.field-0) (λ u own. (c.index-in-loop-k.result.now, first, subst (λ n. is_one_of n c.index-in-loop-k.result.now.tickets.items ≡ true) (sym own.0) (one_at c.index-in-loop-k.result.now.tickets.items c.loop-k.k c.index-ticket.result.now (slice_get_read c.index-in-loop-k.result.now.tickets.items (length c.index-in-loop-k.result.now.tickets.items) c.loop-k.k c.index-ticket.result.now refl low c.index-ticket.ensures)))) c.loop-k.invariant.waits now;
      upto = λ c2 is. closed_more c2.tickets.items c.loop-k.pipeline.notes c.wait_where_open.new.pipeline.notes c.loop-k.k (c.loop-k.invariant.upto c2 is) c.wait_where_open.ensures.hears (λ t at. subst (λ n. is_open n c.wait_where_open.new.pipeline.notes.notes ≡ false) (sym (ticket_at c.args.pipeline.now.committed.items c.args.at c.loop-k.k c.index-in-loop-k.result.now c2 t c.index-ticket.result.now c.requires (c.index-in-loop-k.ensures ∙ ap (λ (p : Pipeline). get_or p.committed.items c.args.at c.index-in-loop-k.result.now) c.loop-k.invariant.waits.rest) c.index-ticket.ensures is at)) c.in_ok-wait_where_open.ensures.closed);
    }

pub returns-clause-noticed : goal.returns-clause-noticed
returns-clause-noticed g c = λ c2 is.
    let size : c.len-k-end.result ≡ length c.index.result.now.tickets.items = search rules in
    none_open_of c2.tickets.items c.loop-k.pipeline.notes.notes c.loop-k.k (ends c.args.pipeline.now.committed.items c.args.at c.index.result.now c2 c.loop-k.k c.requires c.index.ensures is (omega (arith, c.loop-k-test.false, size))) (c.loop-k.invariant.upto c2 is)

pub index-requires-in-loop-k : goal.index-requires-in-loop-k
index-requires-in-loop-k g c = subst (λ (p : Pipeline). c.args.at < deque_len p.committed) (sym c.loop-k.invariant.waits.rest) (search rules)

pub returns-in_err-wait_where_open : goal.returns-in_err-wait_where_open
returns-in_err-wait_where_open g c =
    let first : slice_get c.args.pipeline.now.committed.items c.args.at ≡ Some c.index-in-loop-k.result.now = record_at c.args.pipeline.now.committed.items c.args.at c.index-in-loop-k.result.now c.requires (c.index-in-loop-k.ensures ∙ ap (λ (p : Pipeline). get_or p.committed.items c.args.at c.index-in-loop-k.result.now) c.loop-k.invariant.waits.rest) in
    let entry : slice_get c.args.pipeline.now.committed.items c.args.at ≡ Some c.index.result.now = record_at c.args.pipeline.now.committed.items c.args.at c.index.result.now c.requires c.index.ensures in
    let size : c.len-k-end.result ≡ length c.index.result.now.tickets.items = search rules in
    let low : c.loop-k.k < length c.index-in-loop-k.result.now.tickets.items = subst (λ (d : Committed). c.loop-k.k < length d.tickets.items) (same_Some c.index.result.now c.index-in-loop-k.result.now (sym entry ∙ first)) (omega (arith, c.loop-k-test.true, size)) in
    let now : Waits {A = Unit {0}} g.D.Disk.tells (λ u. (u ≡ c.index-ticket.result.now) × (is_open c.index-ticket.result.now c.loop-k.pipeline.notes.notes ≡ true)) (Err c.in_err-wait_where_open.field-0.0) (g.D.Disk.state c.loop-k.disk) (g.D.Disk.state c.wait_where_open.new.disk) c.loop-k.pipeline c.wait_where_open.new.pipeline = record { agrees = c.wait_where_open.ensures.agrees; hears = c.wait_where_open.ensures.hears; rest = c.wait_where_open.ensures.rest; log = c.wait_where_open.ensures.log; spends = c.in_err-wait_where_open.ensures.spends; only = c.in_err-wait_where_open.ensures.only } in
    let all = waits_failed c.in_err-wait_where_open.field-0.0 c.from_residual.result c.from_residual.ensures.0 (waits_then (λ u. (d : Committed) × (slice_get c.args.pipeline.now.committed.items c.args.at ≡ Some d) × (is_one_of u d.tickets.items ≡ true)) (λ u. (u ≡ c.index-ticket.result.now) × (is_open c.index-ticket.result.now c.loop-k.pipeline.notes.notes ≡ true)) (Err c.in_err-wait_where_open.field-0.0) (λ u own. (c.index-in-loop-k.result.now, first, subst (λ n. is_one_of n c.index-in-loop-k.result.now.tickets.items ≡ true) (sym own.0) (one_at c.index-in-loop-k.result.now.tickets.items c.loop-k.k c.index-ticket.result.now (slice_get_read c.index-in-loop-k.result.now.tickets.items (length c.index-in-loop-k.result.now.tickets.items) c.loop-k.k c.index-ticket.result.now refl low c.index-ticket.ensures)))) c.loop-k.invariant.waits now) in
    record {
      agrees = all.agrees;
      noticed = none_ok _ c.from_residual.result c.from_residual.ensures.0;
      hears = all.hears;
      rest = all.rest;
      log = all.log;
      spends = all.spends;
      cause = λ tells given. on_err c.from_residual.result (c.in_err-wait_where_open.ensures.cause tells (given_heard (g.D.Disk.state c.args.disk.now).log (g.D.Disk.state c.loop-k.disk).log c.args.pipeline.now.notes c.loop-k.pipeline.notes given c.loop-k.invariant.waits.hears (c.loop-k.invariant.waits.log tells)));
      only = all.only;
    }
