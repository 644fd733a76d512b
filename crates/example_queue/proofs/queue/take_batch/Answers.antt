use Rattle.std.proofs.Common.{◌≡◌, ◌+◌, inl, inr, List, ℕ, take, sym, ◌∙◌, subst, arith}
use Rattle.lang_log.specs.History.{appended}
use Rattle.lang_log.specs.Segments.{IsOneOf}
use Rattle.fs_log.specs.Keeping.{Keeps}
use Rattle.fs_log.specs.Open.{state_in}
use Rattle.example_queue.specs.Queue.{with_jobs}
use Rattle.example_queue.proofs.Taking.{acknowledged, keeps_all, keeps_more, on_err, one_of, passed_on}
use Rattle.example_queue.proofs.queue.take_batch.Goals as goal

pub loop-place-preserved : goal.loop-place-preserved
loop-place-preserved g c =
    let before = c.loop-place.invariant in
    let jobs = c.args.jobs.now in
    let lt = c.loop-place-test.true in
    record {
      keeps = λ told h keeps.
          let now = before.keeps told h keeps in
          keeps_more jobs c.loop-place.place c.index-jobs-place.result h (state_in g.S.Blocks.state c.append.new.self) lt (sym c.index-jobs-place.is)
          (subst (λ (job : List ℕ). Keeps (appended job (with_jobs (take c.loop-place.place jobs) h)) (state_in g.S.Blocks.state c.append.new.self)) c.as_slice.ensures
          (c.in_ok-append.ensures.done told (with_jobs (take c.loop-place.place jobs) h) now).keeps);
      upto = omega (arith, lt);
    }

pub returns-in_err-append-clause-refused : goal.returns-in_err-append-clause-refused
returns-in_err-append-clause-refused g c = λ told.
    on_err c.from_residual.result (λ h keeps. record {
      count = c.loop-place.place;
      keeps = (c.in_err-append.ensures.refused told (with_jobs (take c.loop-place.place c.args.jobs.now) h) (c.loop-place.invariant.keeps told h keeps)).keeps;
    })

pub returns-in_err-sync-clause-refused : goal.returns-in_err-sync-clause-refused
returns-in_err-sync-clause-refused g c = λ told.
    on_err c.from_residual-in_err-sync.result (λ h keeps. record {
      count = c.loop-place.place;
      keeps = (c.in_err-sync.ensures.refused told (with_jobs (take c.loop-place.place c.args.jobs.now) h) (c.loop-place.invariant.keeps told h keeps)).keeps;
    })

pub returns-in_err-append-clause-cause : goal.returns-in_err-append-clause-cause
returns-in_err-append-clause-cause g c =
    let jobs = c.args.jobs.now in
    let there = one_of jobs c.loop-place.place c.index-jobs-place.result c.loop-place-test.true in
    passed_on c.from_residual.result c.in_err-append.field-0.0 _ c.from_residual.ensures.1 (record {
      before = c.loop-place.log;
      cause = inl (c.as_slice.result.now, subst (λ (job : List ℕ). IsOneOf job jobs) (sym (c.as_slice.ensures ∙ c.index-jobs-place.is)) there, c.in_err-append.ensures.cause);
    })

pub returns-in_err-sync-clause-cause : goal.returns-in_err-sync-clause-cause
returns-in_err-sync-clause-cause g c =
    passed_on c.from_residual-in_err-sync.result c.in_err-sync.field-0.0 _ c.from_residual-in_err-sync.ensures.1 (record { before = c.loop-place.log; cause = inr c.in_err-sync.ensures.cause })

pub returns-clause-taken : goal.returns-clause-taken
returns-clause-taken g c = λ told h keeps.
    let jobs = c.args.jobs.now in
    let all = keeps_all jobs c.loop-place.place h (state_in g.S.Blocks.state c.loop-place.log) (omega (arith, c.loop-place-test.false)) (c.loop-place.invariant.keeps told h keeps) in
    acknowledged jobs h c.range-number.result.1 (state_in g.S.Blocks.state c.sync.new.self) (c.range-number.ensures.shown.1 ∙ (c.range-number.ensures.told told h keeps).1)
    (c.in_ok-sync.ensures.done told (with_jobs jobs h) all).keeps
