-- The ticket is noticed by the disk, and then by the notes; or the wait failed.
use Rattle.std.proofs.Common.{arith, inl, inr, ⊎_elim, subst, sym, ◌∙◌, refl}
use Rattle.std.proofs.lemmas.Bool.Decides.{nat_tests}
use Rattle.engine_checkpoint.proofs.Notices.{agrees_moved}
use Rattle.engine_checkpoint.proofs.Waited.{agrees_waited, marked_before}
use Rattle.engine_checkpoint.proofs.Given.{open_expected}
use Rattle.engine_checkpoint.proofs.HeardRecords.{heard_alone, hears_failed, taken_is_noticed}
use Rattle.engine_checkpoint.proofs.Spent.{on_err}
use Rattle.disk_contract.specs.Cell.{IsNoticed}
use Rattle.engine_notes.specs.Notes.{is_expected, is_noticed}
use Rattle.engine_checkpoint.specs.Agree.{data_of}
use Rattle.engine_checkpoint.proofs.waits.wait_where_open.Goals as goal

pub returns-in_err-wait_for-clause-agrees : goal.returns-in_err-wait_for-clause-agrees
returns-in_err-wait_for-clause-agrees g c = λ tells s l t floor ring waiting taken safe a.
    let here = agrees_moved _ (g.D.Disk.state c.wait_for.new.disk).base _ (g.D.Disk.state c.args.disk.now).log l c.args.pipeline.now ring waiting taken c.wait_for.ensures.spends.same.base refl a in
    let adds = c.wait_for.ensures.log tells in
    let known = c.wait_for.ensures.knows tells l (data_of c.args.pipeline.now ring waiting) (safe.keeps, a.agree) in (
      c.wait_for.ensures.safe tells s l t floor safe,
      agrees_waited (g.D.Disk.state c.wait_for.new.disk).base (g.D.Disk.state c.args.disk.now).log (g.D.Disk.state c.wait_for.new.disk).log l c.args.pipeline.now ring waiting taken here adds.tickets c.args.pipeline.now.notes adds.log known.1
          c.nothing_is_written_between_records.ensures.notice c.one_write_is_pending.ensures.notice c.taken_blocks_stay_dead.ensures.events (λ u. refl) (λ u e. inl e),
    )

pub returns-clause-agrees : goal.returns-clause-agrees
returns-clause-agrees g c = λ tells s l t floor ring waiting taken safe a.
    let here = agrees_moved _ (g.D.Disk.state c.wait_for.new.disk).base _ (g.D.Disk.state c.args.disk.now).log l c.args.pipeline.now ring waiting taken c.wait_for.ensures.spends.same.base refl a in
    let adds = c.wait_for.ensures.log tells in
    let known = c.wait_for.ensures.knows tells l (data_of c.args.pipeline.now ring waiting) (safe.keeps, a.agree) in
    let came = c.in_ok-wait_for.ensures.noticed tells in (
      c.wait_for.ensures.safe tells s l t floor safe,
      agrees_waited (g.D.Disk.state c.wait_for.new.disk).base (g.D.Disk.state c.args.disk.now).log (g.D.Disk.state c.wait_for.new.disk).log l c.args.pipeline.now ring waiting taken here adds.tickets c.noticed.new.self adds.log known.1
          c.nothing_is_written_between_records.ensures.notice c.one_write_is_pending.ensures.notice c.taken_blocks_stay_dead.ensures.events c.noticed.ensures.expected
          (λ u e. ⊎_elim inl (λ same. inr (subst (λ n. IsNoticed n (g.D.Disk.state c.wait_for.new.disk).log) same came)) (marked_before (is_noticed u c.args.pipeline.now.notes.notes) (is_expected u c.args.pipeline.now.notes.notes) c.args.ticket u (sym (c.noticed.ensures.noticed u) ∙ e))),
    )

pub returns-in_err-wait_for-clause-cause : goal.returns-in_err-wait_for-clause-cause
returns-in_err-wait_for-clause-cause g c = grind (arith, nat_tests, on_err, open_expected)

pub returns-in_err-wait_for-clause-only : goal.returns-in_err-wait_for-clause-only
returns-in_err-wait_for-clause-only g c = grind (arith, nat_tests, hears_failed, heard_alone)

pub returns-clause-only : goal.returns-clause-only
returns-clause-only g c = grind (arith, nat_tests, heard_alone, taken_is_noticed)
