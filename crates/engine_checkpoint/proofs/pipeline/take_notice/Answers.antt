-- A notice is heard, and all else stays.
use Rattle.std.proofs.Common.{Ok, is_err, refl, ◌∙◌, ap}
use Rattle.disk_contract.specs.declared.disk.DiskFault.{DiskFault}
use Rattle.engine_checkpoint.specs.Agree.{data_of}
use Rattle.engine_checkpoint.proofs.Notices.{agrees_notice, agrees_moved, some_adds, none_adds, took_none}
use Rattle.engine_checkpoint.proofs.NoticeRows.{takes_one}
use Rattle.engine_checkpoint.proofs.Polled.{takes_failed, takes_none, takes_some}
use Rattle.engine_checkpoint.proofs.pipeline.take_notice.Goals as goal

pub returns-in_err-ticket-clause-agrees : goal.returns-in_err-ticket-clause-agrees
returns-in_err-ticket-clause-agrees g c = λ tells s l t floor ring waiting taken safe a. (
  c.poll_once.ensures.safe tells s l t floor safe,
  agrees_moved _ (g.D.Disk.state c.poll_once.new.disk).base _ (g.D.Disk.state c.poll_once.new.disk).log l c.args.pipeline.now ring waiting taken c.poll_once.ensures.spends.same.base (c.in_err-ticket.ensures.log tells) a,
)

pub returns-in-None-clause-agrees : goal.returns-in-None-clause-agrees
returns-in-None-clause-agrees g c = λ tells s l t floor ring waiting taken safe a. (
  c.poll_once.ensures.safe tells s l t floor safe,
  agrees_moved _ (g.D.Disk.state c.poll_once.new.disk).base _ (g.D.Disk.state c.poll_once.new.disk).log l c.args.pipeline.now ring waiting taken c.poll_once.ensures.spends.same.base (none_adds DiskFault c.in_ok-ticket.field-0 _ _ c.in-None.is (c.in_ok-ticket.ensures.log tells)) a,
)

pub returns-in-Some-clause-agrees : goal.returns-in-Some-clause-agrees
returns-in-Some-clause-agrees g c = λ tells s l t floor ring waiting taken safe a.
    let here = agrees_moved _ (g.D.Disk.state c.poll_once.new.disk).base _ (g.D.Disk.state c.args.disk.now).log l c.args.pipeline.now ring waiting taken c.poll_once.ensures.spends.same.base refl a in
    let known = c.poll_once.ensures.knows tells l (data_of c.args.pipeline.now ring waiting) (safe.keeps, a.agree) in (
      c.poll_once.ensures.safe tells s l t floor safe,
      agrees_notice (g.D.Disk.state c.poll_once.new.disk).base (g.D.Disk.state c.args.disk.now).log (g.D.Disk.state c.poll_once.new.disk).log l c.args.pipeline.now ring waiting taken here c.in-Some.ticket c.noticed.new.self (some_adds DiskFault c.in_ok-ticket.field-0 c.in-Some.ticket _ _ c.in-Some.is (c.in_ok-ticket.ensures.log tells)) known.1 c.nothing_is_written_between_records.ensures.notice c.one_write_is_pending.ensures.notice c.taken_blocks_stay_dead.ensures.events c.noticed.ensures.expected c.noticed.ensures.noticed,
    )

pub returns-in_err-ticket-clause-takes : goal.returns-in_err-ticket-clause-takes
returns-in_err-ticket-clause-takes g c = λ tells. took_none _ _ _ _ _ c.from_residual.ensures.0 refl (c.in_err-ticket.ensures.log tells)

pub returns-in-None-clause-takes : goal.returns-in-None-clause-takes
returns-in-None-clause-takes g c = λ tells. (none_adds DiskFault c.in_ok-ticket.field-0 _ _ c.in-None.is (c.in_ok-ticket.ensures.log tells), refl)

pub returns-in-Some-clause-takes : goal.returns-in-Some-clause-takes
returns-in-Some-clause-takes g c = λ tells. (c.in-Some.ticket, some_adds DiskFault c.in_ok-ticket.field-0 c.in-Some.ticket _ _ c.in-Some.is (c.in_ok-ticket.ensures.log tells), takes_one c.in-Some.ticket c.args.pipeline.now.notes.notes c.noticed.new.self.notes c.noticed.ensures.expected c.noticed.ensures.noticed)

pub returns-in_err-ticket-clause-answer : goal.returns-in_err-ticket-clause-answer
returns-in_err-ticket-clause-answer g c = λ tells. takes_failed ((g.D.Disk.state c.args.disk.now).manner.notice (g.D.Disk.state c.args.disk.now).polls (g.D.Disk.state c.args.disk.now).log) c.poll_once.result c.from_residual.result _ _ (ap is_err c.in_err-ticket.was) (c.poll_once.ensures.answer tells)

pub returns-in-None-clause-answer : goal.returns-in-None-clause-answer
returns-in-None-clause-answer g c = λ tells. takes_none DiskFault ((g.D.Disk.state c.args.disk.now).manner.notice (g.D.Disk.state c.args.disk.now).polls (g.D.Disk.state c.args.disk.now).log) c.poll_once.result _ _ (c.in_ok-ticket.was ∙ ap Ok c.in-None.is) (c.poll_once.ensures.answer tells) (c.poll_once.ensures.log tells)

pub returns-in-Some-clause-answer : goal.returns-in-Some-clause-answer
returns-in-Some-clause-answer g c = λ tells. takes_some DiskFault ((g.D.Disk.state c.args.disk.now).manner.notice (g.D.Disk.state c.args.disk.now).polls (g.D.Disk.state c.args.disk.now).log) c.poll_once.result c.in-Some.ticket _ _ (c.in_ok-ticket.was ∙ ap Ok c.in-Some.is) (c.poll_once.ensures.answer tells) (c.poll_once.ensures.log tells)
