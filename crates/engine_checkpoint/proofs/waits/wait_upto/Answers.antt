-- Each turn has one record more of which no ticket is open.
use Rattle.std.proofs.Common.{rules, ⊎_elim, ◌<◌, ◌≤◌, get_or, ◌≡◌, ◌∙◌, length, slice_get, Some, true, false, Ok, sym, ap, subst, arith, Err, ℕ}
use Rattle.engine_checkpoint.proofs.WaitRows.{Waits, waits_none, waits_then, waits_failed}
use Rattle.engine_checkpoint.specs.Waits.{IsOfRecord}
use Rattle.engine_checkpoint.specs.declared.pipeline.Pipeline.{Pipeline}
use Rattle.engine_checkpoint.proofs.Hears.{records_more, record_at}
use Rattle.engine_checkpoint.proofs.Numbers.{committed_rise}
use Rattle.std.proofs.lemmas.Bool.{cases_lt}
use Rattle.std.proofs.lemmas.Option.{same_Some, slice_get_within}
use Rattle.engine_running.specs.declared.commit.Committed.{Committed}
use Rattle.crash_argument.specs.HomeTest.{is_one_of}
use Rattle.engine_checkpoint.proofs.Spent.{none_ok, on_err}
use Rattle.engine_checkpoint.proofs.Given.{given_heard}
use Rattle.engine_checkpoint.proofs.waits.wait_upto.Goals as goal

-- a ticket of the record at this place is one of a record up to this number
of_record : (v w : Pipeline) (upto at u : ℕ) (k : Committed) → w ≡ record v { notes = w.notes } → slice_get w.committed.items at ≡ Some k → k.number ≤ upto → (d : Committed) × (slice_get w.committed.items at ≡ Some d) × (is_one_of u d.tickets.items ≡ true) → IsOfRecord v upto u
of_record v w upto at u k rest first low own = record {
  place = at;
  committed = own.0;
  is = sym (ap (λ (p : Pipeline). slice_get p.committed.items at) rest) ∙ own.1;
  within = subst (λ (d : Committed). d.number ≤ upto) (same_Some k own.0 (sym first ∙ own.1)) low;
  own = own.2;
}

pub loop-at-init : goal.loop-at-init
loop-at-init g c = record { waits = waits_none g.D.Disk.tells (IsOfRecord c.args.pipeline.now c.args.upto) (g.D.Disk.state c.args.disk.now) c.args.pipeline.now; upto = λ k c2 lt. absurd (omega (arith, lt)) }

pub loop-at-preserved : goal.loop-at-preserved
loop-at-preserved g c =
    let few : c.loop-at.at < length c.loop-at.pipeline.committed.items = search rules in
    let first : slice_get c.loop-at.pipeline.committed.items c.loop-at.at ≡ Some c.index.result.now = record_at c.loop-at.pipeline.committed.items c.loop-at.at c.index.result.now few c.index.ensures in
    let now : Waits {A = Unit {0}} g.D.Disk.tells (λ u. (d : Committed) × (slice_get c.loop-at.pipeline.committed.items c.loop-at.at ≡ Some d) × (is_one_of u d.tickets.items ≡ true)) (Ok c.in_ok-wait_for_record.field-0) (g.D.Disk.state c.loop-at.disk) (g.D.Disk.state c.wait_for_record.new.disk) c.loop-at.pipeline c.wait_for_record.new.pipeline = record { agrees = c.wait_for_record.ensures.agrees; hears = c.wait_for_record.ensures.hears; rest = c.wait_for_record.ensures.rest; log = c.wait_for_record.ensures.log; spends = c.in_ok-wait_for_record.ensures.spends; only = c.in_ok-wait_for_record.ensures.only } in
    record {
      waits = waits_then (IsOfRecord c.args.pipeline.now c.args.upto) (λ u. (d : Committed) × (slice_get c.loop-at.pipeline.committed.items c.loop-at.at ≡ Some d) × (is_one_of u d.tickets.items ≡ true)) (Ok c.in_ok-wait_for_record.field-0) (λ u own. of_record c.args.pipeline.now c.loop-at.pipeline c.args.upto c.loop-at.at u c.index.result.now c.loop-at.invariant.waits.rest first c.if-upto-index.false own) c.loop-at.invariant.waits now;
      upto = records_more c.args.pipeline.now.committed.items c.loop-at.pipeline.notes c.wait_for_record.new.pipeline.notes c.loop-at.at c.loop-at.invariant.upto c.wait_for_record.ensures.hears
          (λ c2 is. c.in_ok-wait_for_record.ensures.noticed c2 (ap (λ (p : Pipeline). slice_get p.committed.items c.loop-at.at) c.loop-at.invariant.waits.rest ∙ is));
    }

pub returns-then-upto-index-clause-noticed : goal.returns-then-upto-index-clause-noticed
returns-then-upto-index-clause-noticed g c = λ k c2 is upto.
    let v = c.args.pipeline.now in
    let there : slice_get v.committed.items k ≡ Some c2 = sym (ap (λ (p : Pipeline). slice_get p.committed.items k) c.loop-at.invariant.waits.rest) ∙ is in
    let low : c.loop-at.at < length v.committed.items = search rules in
    let first : slice_get v.committed.items c.loop-at.at ≡ Some c.index.result.now = record_at v.committed.items c.loop-at.at c.index.result.now low (c.index.ensures ∙ ap (λ (p : Pipeline). get_or p.committed.items c.loop-at.at c.index.result.now) c.loop-at.invariant.waits.rest) in
    ⊎_elim (λ less. c.loop-at.invariant.upto k c2 less there) (λ not_less. absurd (omega (arith, upto, c.if-upto-index.true, committed_rise v c.requires.order c.loop-at.at k c.index.result.now c2 first there not_less))) (cases_lt k c.loop-at.at)

pub returns-clause-noticed : goal.returns-clause-noticed
returns-clause-noticed g c = λ k c2 is upto.
    let v = c.args.pipeline.now in
    let there : slice_get v.committed.items k ≡ Some c2 = sym (ap (λ (p : Pipeline). slice_get p.committed.items k) c.loop-at.invariant.waits.rest) ∙ is in
    let all : c.len-at-end.result ≡ length v.committed.items = search rules in
    c.loop-at.invariant.upto k c2 (omega (arith, c.loop-at-test.false, all, slice_get_within v.committed.items k c2 there)) there

pub returns-in_err-wait_for_record : goal.returns-in_err-wait_for_record
returns-in_err-wait_for_record g c =
    let few : c.loop-at.at < length c.loop-at.pipeline.committed.items = search rules in
    let first : slice_get c.loop-at.pipeline.committed.items c.loop-at.at ≡ Some c.index.result.now = record_at c.loop-at.pipeline.committed.items c.loop-at.at c.index.result.now few c.index.ensures in
    let now : Waits {A = Unit {0}} g.D.Disk.tells (λ u. (d : Committed) × (slice_get c.loop-at.pipeline.committed.items c.loop-at.at ≡ Some d) × (is_one_of u d.tickets.items ≡ true)) (Err c.in_err-wait_for_record.field-0.0) (g.D.Disk.state c.loop-at.disk) (g.D.Disk.state c.wait_for_record.new.disk) c.loop-at.pipeline c.wait_for_record.new.pipeline = record { agrees = c.wait_for_record.ensures.agrees; hears = c.wait_for_record.ensures.hears; rest = c.wait_for_record.ensures.rest; log = c.wait_for_record.ensures.log; spends = c.in_err-wait_for_record.ensures.spends; only = c.in_err-wait_for_record.ensures.only } in
    let all = waits_failed c.in_err-wait_for_record.field-0.0 c.from_residual.result c.from_residual.ensures.0 (waits_then (IsOfRecord c.args.pipeline.now c.args.upto) (λ u. (d : Committed) × (slice_get c.loop-at.pipeline.committed.items c.loop-at.at ≡ Some d) × (is_one_of u d.tickets.items ≡ true)) (Err c.in_err-wait_for_record.field-0.0) (λ u own. of_record c.args.pipeline.now c.loop-at.pipeline c.args.upto c.loop-at.at u c.index.result.now c.loop-at.invariant.waits.rest first c.if-upto-index.false own) c.loop-at.invariant.waits now) in
    record {
      agrees = all.agrees;
      noticed = none_ok _ c.from_residual.result c.from_residual.ensures.0;
      hears = all.hears;
      rest = all.rest;
      log = all.log;
      spends = all.spends;
      cause = λ tells given. on_err c.from_residual.result (c.in_err-wait_for_record.ensures.cause tells (given_heard (g.D.Disk.state c.args.disk.now).log (g.D.Disk.state c.loop-at.disk).log c.args.pipeline.now.notes c.loop-at.pipeline.notes given c.loop-at.invariant.waits.hears (c.loop-at.invariant.waits.log tells)));
      only = all.only;
    }
