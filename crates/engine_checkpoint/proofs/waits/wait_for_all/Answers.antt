-- Each turn has one ticket more noticed.
use Rattle.std.proofs.Common.{◌≡◌, true, false, Ok, arith, Err}
use Rattle.engine_checkpoint.proofs.WaitRows.{Waits, waits_none, waits_then, waits_failed}
use Rattle.engine_checkpoint.proofs.Hears.{heard_opens, here, all_noticed, upto_more}
use Rattle.engine_notes.specs.Notes.{is_open}
use Rattle.engine_checkpoint.proofs.Spent.{none_ok, on_err}
use Rattle.engine_checkpoint.proofs.Given.{given_heard}
use Rattle.engine_checkpoint.proofs.waits.wait_for_all.Goals as goal

pub loop-at-init : goal.loop-at-init
loop-at-init g c = record { waits = waits_none g.D.Disk.tells (λ u. is_open u c.args.pipeline.now.notes.notes ≡ true) (g.D.Disk.state c.args.disk.now) c.args.pipeline.now; upto = λ k n lt. absurd (omega (arith, lt)) }

pub loop-at-preserved : goal.loop-at-preserved
loop-at-preserved g c =
    let now : Waits {A = Unit {0}} g.D.Disk.tells (λ u. is_open u c.loop-at.pipeline.notes.notes ≡ true) (Ok c.in_ok-wait_for_note.field-0) (g.D.Disk.state c.loop-at.disk) (g.D.Disk.state c.wait_for_note.new.disk) c.loop-at.pipeline c.wait_for_note.new.pipeline = record { agrees = c.wait_for_note.ensures.agrees; hears = c.wait_for_note.ensures.hears; rest = c.wait_for_note.ensures.rest; log = c.wait_for_note.ensures.log; spends = c.in_ok-wait_for_note.ensures.spends; only = c.in_ok-wait_for_note.ensures.only } in
    record {
      waits = waits_then (λ u. is_open u c.args.pipeline.now.notes.notes ≡ true) (λ u. is_open u c.loop-at.pipeline.notes.notes ≡ true) (Ok c.in_ok-wait_for_note.field-0) (heard_opens c.args.pipeline.now.notes c.loop-at.pipeline.notes c.loop-at.invariant.waits.hears) c.loop-at.invariant.waits now;
      upto = upto_more c.args.pipeline.now.notes.notes c.loop-at.pipeline.notes c.wait_for_note.new.pipeline.notes c.loop-at.at c.loop-at.invariant.upto c.wait_for_note.ensures.hears.noticed
          (λ n is. here c.args.pipeline.now.notes.notes c.loop-at.pipeline.notes.notes c.wait_for_note.new.pipeline.notes.notes c.loop-at.at n c.loop-at.invariant.waits.hears.tickets is c.in_ok-wait_for_note.ensures.noticed);
    }

pub returns-clause-noticed : goal.returns-clause-noticed
returns-clause-noticed g c = all_noticed c.args.pipeline.now.notes.notes c.loop-at.pipeline.notes.notes c.loop-at.at c.loop-at.invariant.waits.hears.tickets (omega (arith, c.loop-at-test.false, c.len-at-end.ensures)) c.loop-at.invariant.upto

pub returns-in_err-wait_for_note : goal.returns-in_err-wait_for_note
returns-in_err-wait_for_note g c =
    let now : Waits {A = Unit {0}} g.D.Disk.tells (λ u. is_open u c.loop-at.pipeline.notes.notes ≡ true) (Err c.in_err-wait_for_note.field-0.0) (g.D.Disk.state c.loop-at.disk) (g.D.Disk.state c.wait_for_note.new.disk) c.loop-at.pipeline c.wait_for_note.new.pipeline = record { agrees = c.wait_for_note.ensures.agrees; hears = c.wait_for_note.ensures.hears; rest = c.wait_for_note.ensures.rest; log = c.wait_for_note.ensures.log; spends = c.in_err-wait_for_note.ensures.spends; only = c.in_err-wait_for_note.ensures.only } in
    let all = waits_failed c.in_err-wait_for_note.field-0.0 c.from_residual.result c.from_residual.ensures.0 (waits_then (λ u. is_open u c.args.pipeline.now.notes.notes ≡ true) (λ u. is_open u c.loop-at.pipeline.notes.notes ≡ true) (Err c.in_err-wait_for_note.field-0.0) (heard_opens c.args.pipeline.now.notes c.loop-at.pipeline.notes c.loop-at.invariant.waits.hears) c.loop-at.invariant.waits now) in
    record {
      agrees = all.agrees;
      noticed = none_ok _ c.from_residual.result c.from_residual.ensures.0;
      hears = all.hears;
      rest = all.rest;
      log = all.log;
      spends = all.spends;
      cause = λ tells given. on_err c.from_residual.result (c.in_err-wait_for_note.ensures.cause tells (given_heard (g.D.Disk.state c.args.disk.now).log (g.D.Disk.state c.loop-at.disk).log c.args.pipeline.now.notes c.loop-at.pipeline.notes given c.loop-at.invariant.waits.hears (c.loop-at.invariant.waits.log tells)));
      only = all.only;
    }
