-- Each turn takes one notice more.
use Rattle.std.proofs.Common.{Ok, true, false, is_err, refl, ◌∙◌, ap, arith}
use Rattle.std.proofs.lemmas.Bool.Decides.{nat_tests}
use Rattle.base_types.specs.Counts.{next_count}
use Rattle.engine_checkpoint.proofs.Hears.{hears_on, hears_same}
use Rattle.engine_checkpoint.proofs.NoticeRows.{none_taken, one_taken, last_taken, polls_step, polls_on, polls_few}
use Rattle.engine_checkpoint.proofs.Polled.{row_more, row_ends, row_holds, row_done}
use Rattle.engine_checkpoint.specs.declared.pipeline.Pipeline.{Pipeline}
use Rattle.engine_checkpoint.proofs.pipeline.take_notices.Goals as goal

pub loop-turn-init : goal.loop-turn-init
loop-turn-init g c = grind (arith, nat_tests, hears_same, none_taken)

pub returns-in_err-take_notice-clause-agrees : goal.returns-in_err-take_notice-clause-agrees
returns-in_err-take_notice-clause-agrees g c = λ tells s l t floor ring waiting taken safe a. let was = c.loop-turn.invariant.agrees tells s l t floor ring waiting taken safe a in c.take_notice.ensures.agrees tells s l t floor ring waiting taken was.0 was.1

pub returns-then-not-branch-clause-agrees : goal.returns-then-not-branch-clause-agrees
returns-then-not-branch-clause-agrees g c = λ tells s l t floor ring waiting taken safe a. let was = c.loop-turn.invariant.agrees tells s l t floor ring waiting taken safe a in c.take_notice.ensures.agrees tells s l t floor ring waiting taken was.0 was.1

pub loop-turn-preserved : goal.loop-turn-preserved
loop-turn-preserved g c = record {
  spends = polls_on false c.loop-turn.turn _ _ _ c.loop-turn.invariant.spends c.in_ok-take_notice.ensures.spends;
  hears = hears_on _ _ _ c.loop-turn.invariant.hears c.take_notice.ensures.hears;
  rest = c.take_notice.ensures.rest ∙ ap (λ (v : Pipeline). record v { notes = c.take_notice.new.pipeline.notes }) c.loop-turn.invariant.rest;
  takes = λ tells. one_taken c.take_notice.result c.loop-turn.turn c.args.pipeline.now c.loop-turn.pipeline c.take_notice.new.pipeline _ _ _ (c.in_ok-take_notice.was ∙ ap Ok c.if-not-branch.false) (c.loop-turn.invariant.takes tells) (c.take_notice.ensures.takes tells);
  polled = λ tells p e. row_more _ _ c.loop-turn.turn _ _ _ _ c.take_notice.result p c.loop-turn.invariant.spends.same.manner c.loop-turn-test.true (c.in_ok-take_notice.was ∙ ap Ok c.if-not-branch.false) c.take_notice.ensures.spends.polls (c.take_notice.ensures.answer tells) (c.loop-turn.invariant.polled tells p e);
  agrees = λ tells s l t floor ring waiting taken safe a. let was = c.loop-turn.invariant.agrees tells s l t floor ring waiting taken safe a in c.take_notice.ensures.agrees tells s l t floor ring waiting taken was.0 was.1;
}

pub returns-then-not-branch-clause-takes : goal.returns-then-not-branch-clause-takes
returns-then-not-branch-clause-takes g c = λ tells. last_taken c.take_notice.result _ c.loop-turn.turn c.args.pipeline.now c.loop-turn.pipeline c.take_notice.new.pipeline (g.D.Disk.state c.args.disk.now) (g.D.Disk.state c.loop-turn.disk) (g.D.Disk.state c.take_notice.new.disk) (c.in_ok-take_notice.was ∙ ap Ok c.if-not-branch.true) c.loop-turn-test.true (c.loop-turn.invariant.takes tells) (c.take_notice.ensures.takes tells)
    (c.take_notice.ensures.spends.polls ∙ ap next_count c.loop-turn.invariant.spends.polls ∙ polls_step (g.D.Disk.state c.args.disk.now).polls c.loop-turn.turn)

pub returns-in_err-take_notice-clause-spends : goal.returns-in_err-take_notice-clause-spends
returns-in_err-take_notice-clause-spends g c = polls_few _ true c.loop-turn.turn 64 _ _ _ c.from_residual.ensures.0 c.loop-turn-test.true c.loop-turn.invariant.spends c.in_err-take_notice.ensures.spends

pub returns-then-not-branch-clause-spends : goal.returns-then-not-branch-clause-spends
returns-then-not-branch-clause-spends g c = polls_few _ false c.loop-turn.turn 64 _ _ _ refl c.loop-turn-test.true c.loop-turn.invariant.spends c.in_ok-take_notice.ensures.spends

pub returns-clause-spends : goal.returns-clause-spends
returns-clause-spends g c = record { asked = c.loop-turn.turn; upto = omega (arith, c.loop-turn.auto.turn-end); spends = c.loop-turn.invariant.spends }

pub returns-in_err-take_notice-clause-hears : goal.returns-in_err-take_notice-clause-hears
returns-in_err-take_notice-clause-hears g c = hears_on _ _ _ c.loop-turn.invariant.hears c.take_notice.ensures.hears

pub returns-then-not-branch-clause-hears : goal.returns-then-not-branch-clause-hears
returns-then-not-branch-clause-hears g c = hears_on _ _ _ c.loop-turn.invariant.hears c.take_notice.ensures.hears

pub returns-in_err-take_notice-clause-polled : goal.returns-in_err-take_notice-clause-polled
returns-in_err-take_notice-clause-polled g c = λ tells p e. absurd (row_holds _ _ c.loop-turn.turn _ _ _ c.take_notice.result p c.loop-turn.invariant.spends.same.manner c.loop-turn-test.true (ap is_err c.in_err-take_notice.was) (c.take_notice.ensures.answer tells) (c.loop-turn.invariant.polled tells p e))

pub returns-then-not-branch-clause-polled : goal.returns-then-not-branch-clause-polled
returns-then-not-branch-clause-polled g c = grind (arith, nat_tests, row_ends)

pub returns-clause-polled : goal.returns-clause-polled
returns-clause-polled g c = λ tells p e.
    let done = row_done (g.D.Disk.state c.args.disk.now).manner c.loop-turn.turn (g.D.Disk.state c.loop-turn.disk).polls (g.D.Disk.state c.loop-turn.disk).log p (omega (arith, c.loop-turn-test.false)) (c.loop-turn.invariant.polled tells p e) in
    record { done = refl; polls = done.0; log = done.1 }
