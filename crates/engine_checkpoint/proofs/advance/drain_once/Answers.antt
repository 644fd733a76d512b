-- Where there is no record nothing is done; else a wait for all tickets, and the steps that are due then.
use Rattle.std.proofs.Common.{◌≡◌, true, arith, Ok, IsTrue}
use Rattle.engine_checkpoint.proofs.GoesRows.{goes_then, goes_upto, goes_heard, goes_nowhere, waited}
use Rattle.engine_checkpoint.proofs.Heard.{sound_heard}
use Rattle.engine_checkpoint.proofs.HeardRecords.{heard_waited}
use Rattle.engine_checkpoint.proofs.StageRows.{empty_is_on}
use Rattle.engine_checkpoint.proofs.Spent.{none_ok, on_err}
use Rattle.engine_checkpoint.proofs.advance.drain_once.Goals as goal

pub returns-then-is_empty-clause-stage : goal.returns-then-is_empty-clause-stage
returns-then-is_empty-clause-stage g c = empty_is_on c.args.pipeline.now c.requires.sound.order c.is_empty.result c.if-is_empty.true c.is_empty.ensures

pub returns-in_err-wait_for_all-clause-goes : goal.returns-in_err-wait_for_all-clause-goes
returns-in_err-wait_for_all-clause-goes g c =
    let listens = waited {tells = g.D.Disk.tells} {old = g.D.Disk.state c.args.disk.now} {mid = g.D.Disk.state c.wait_for_all.new.disk} c.args.pipeline.now c.wait_for_all.new.pipeline c.wait_for_all.ensures.agrees c.wait_for_all.ensures.hears c.wait_for_all.ensures.rest c.wait_for_all.ensures.log c.wait_for_all.ensures.spends in
    goes_upto 0 1 (omega arith) (goes_heard listens c.args.ring.now c.args.reuse.now c.from_residual.result c.the_newest_payloads_are_the_map.ensures.calm c.requires.sound (none_ok _ c.from_residual.result c.from_residual.ensures.0))

pub go_on-requires-clause-sound : goal.go_on-requires-clause-sound
go_on-requires-clause-sound g c = sound_heard c.args.pipeline.now c.wait_for_all.new.pipeline c.args.ring.now c.args.reuse.now c.wait_for_all.ensures.rest c.wait_for_all.ensures.hears c.requires.sound

pub returns-clause-goes : goal.returns-clause-goes
returns-clause-goes g c =
    let listens = waited {tells = g.D.Disk.tells} {old = g.D.Disk.state c.args.disk.now} {mid = g.D.Disk.state c.wait_for_all.new.disk} c.args.pipeline.now c.wait_for_all.new.pipeline c.wait_for_all.ensures.agrees c.wait_for_all.ensures.hears c.wait_for_all.ensures.rest c.wait_for_all.ensures.log c.wait_for_all.ensures.spends in
    let known = λ (tells : IsTrue g.D.Disk.tells) (alone : (g.D.Disk.state c.args.disk.now).manner.waits_alone ≡ true).
    heard_waited c.in_ok-wait_for_all.field-0 (g.D.Disk.state c.args.disk.now).log (g.D.Disk.state c.wait_for_all.new.disk).log c.args.pipeline.now c.wait_for_all.new.pipeline c.wait_for_all.ensures.hears (c.in_ok-wait_for_all.ensures.only tells alone) in
    goes_then c.go_on.result 0 1 (goes_heard listens c.args.ring.now c.args.reuse.now (Ok tt) c.the_newest_payloads_are_the_map.ensures.calm c.requires.sound known) c.go_on.ensures.goes c.wait_for_all.ensures.spends.spends.same.manner

pub returns-then-is_empty-clause-goes : goal.returns-then-is_empty-clause-goes
returns-then-is_empty-clause-goes g c = goes_upto 0 1 (omega arith) (goes_nowhere (Ok tt) c.the_newest_payloads_are_the_map.ensures.calm c.requires.sound)

pub returns-in_err-wait_for_all-clause-cause : goal.returns-in_err-wait_for_all-clause-cause
returns-in_err-wait_for_all-clause-cause g c = λ tells given. on_err c.from_residual.result (c.in_err-wait_for_all.ensures.cause tells given)

pub returns-clause-cause : goal.returns-clause-cause
returns-clause-cause g c = λ tells given. c.go_on.ensures.cause tells
