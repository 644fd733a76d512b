-- The notices are taken, and then the steps that are due are made.
use Rattle.std.proofs.Common.{◌≡◌, true, is_err, subst, ap, ◌∙◌, arith, Ok, IsTrue}
use Rattle.engine_checkpoint.proofs.GoesRows.{goes_then, goes_upto, goes_heard, right_then, took}
use Rattle.disk_contract.specs.Manner.{Manner}
use Rattle.engine_checkpoint.specs.declared.pipeline.Pipeline.{Pipeline}
use Rattle.engine_checkpoint.specs.Serving.{ServesByLog}
use Rattle.engine_checkpoint.proofs.Heard.{sound_heard, turns_heard, has_turns, due_heard}
use Rattle.engine_checkpoint.proofs.HeardRecords.{heard_taken}
use Rattle.engine_checkpoint.proofs.Polled.{polls_first, polls_failed}
use Rattle.engine_checkpoint.proofs.Spent.{none_ok, on_ok}
use Rattle.engine_checkpoint.proofs.pipeline.Pipeline.advance.Goals as goal

pub returns-in_err-take_notices-clause-goes : goal.returns-in_err-take_notices-clause-goes
returns-in_err-take_notices-clause-goes g c =
    let listens = took {tells = g.D.Disk.tells} {old = g.D.Disk.state c.args.disk.now} {mid = g.D.Disk.state c.take_notices.new.disk} c.args.self.now c.take_notices.new.pipeline c.take_notices.ensures.agrees c.take_notices.ensures.hears c.take_notices.ensures.rest c.take_notices.ensures.takes c.take_notices.ensures.spends in
    goes_upto 0 1 (omega arith) (goes_heard listens c.args.ring.now c.args.reuse.now c.from_residual.result c.the_newest_payloads_are_the_map.ensures.calm c.requires.sound (none_ok _ c.from_residual.result c.from_residual.ensures.0))

pub go_on-requires-clause-sound : goal.go_on-requires-clause-sound
go_on-requires-clause-sound g c = sound_heard c.args.self.now c.take_notices.new.pipeline c.args.ring.now c.args.reuse.now c.take_notices.ensures.rest c.take_notices.ensures.hears c.requires.sound

pub go_on-requires-clause-turns : goal.go_on-requires-clause-turns
go_on-requires-clause-turns g c = turns_heard 1 c.args.self.now c.take_notices.new.pipeline c.take_notices.ensures.rest (has_turns 1 c.args.self.now (omega arith) c.requires.turns)

pub returns-clause-goes : goal.returns-clause-goes
returns-clause-goes g c =
    let listens = took {tells = g.D.Disk.tells} {old = g.D.Disk.state c.args.disk.now} {mid = g.D.Disk.state c.take_notices.new.disk} c.args.self.now c.take_notices.new.pipeline c.take_notices.ensures.agrees c.take_notices.ensures.hears c.take_notices.ensures.rest c.take_notices.ensures.takes c.take_notices.ensures.spends in
    let known = λ (tells : IsTrue g.D.Disk.tells). let came = c.take_notices.ensures.takes tells in λ (alone : (g.D.Disk.state c.args.disk.now).manner.waits_alone ≡ true).
    heard_taken came.tickets (g.D.Disk.state c.args.disk.now).log (g.D.Disk.state c.take_notices.new.disk).log c.args.self.now c.take_notices.new.pipeline c.take_notices.ensures.hears came.log came.notes in
    goes_then c.go_on.result 0 1 (goes_heard listens c.args.ring.now c.args.reuse.now (Ok tt) c.the_newest_payloads_are_the_map.ensures.calm c.requires.sound known) c.go_on.ensures.goes c.take_notices.ensures.spends.spends.same.manner

pub returns-clause-due : goal.returns-clause-due
returns-clause-due g c = λ tells s l t floor taken right.
    on_ok c.go_on.result (c.go_on.ensures.due tells s l t floor taken (right_then (took {tells = g.D.Disk.tells} {old = g.D.Disk.state c.args.disk.now} {mid = g.D.Disk.state c.take_notices.new.disk} c.args.self.now c.take_notices.new.pipeline c.take_notices.ensures.agrees c.take_notices.ensures.hears c.take_notices.ensures.rest c.take_notices.ensures.takes c.take_notices.ensures.spends) c.args.ring.now c.args.reuse.now tells s l t floor taken right))
    (due_heard c.args.self.now c.take_notices.new.pipeline c.go_on.new.pipeline c.take_notices.ensures.rest)

pub returns-in_err-take_notices-clause-polled : goal.returns-in_err-take_notices-clause-polled
returns-in_err-take_notices-clause-polled g c = λ tells. polls_failed c.take_notices.result (g.D.Disk.state c.args.disk.now) (g.D.Disk.state c.take_notices.new.disk) (ap is_err c.in_err-take_notices.was) (c.take_notices.ensures.polled tells)

pub returns-clause-polled : goal.returns-clause-polled
returns-clause-polled g c = λ tells.
    polls_first c.take_notices.result (g.D.Disk.state c.args.disk.now) (g.D.Disk.state c.take_notices.new.disk) _ _ (c.take_notices.ensures.polled tells) c.go_on.ensures.spends.polls (c.go_on.ensures.writes tells)

pub returns-clause-serves : goal.returns-clause-serves
returns-clause-serves g c = λ tells s l t floor taken right.
    let v = c.args.self.now in
    let w = c.take_notices.new.pipeline in
    let old = g.D.Disk.state c.args.disk.now in
    let middle = g.D.Disk.state c.take_notices.new.disk in
    let new = g.D.Disk.state c.go_on.new.disk in
    let taken_in = c.take_notices.ensures.takes tells in
    on_ok c.go_on.result (c.go_on.ensures.serves tells s l t floor taken (right_then (took {tells = g.D.Disk.tells} {old = g.D.Disk.state c.args.disk.now} {mid = g.D.Disk.state c.take_notices.new.disk} c.args.self.now c.take_notices.new.pipeline c.take_notices.ensures.agrees c.take_notices.ensures.hears c.take_notices.ensures.rest c.take_notices.ensures.takes c.take_notices.ensures.spends) c.args.ring.now c.args.reuse.now tells s l t floor taken right))
    (λ known alone knew. subst (λ (p : Pipeline). ServesByLog p.geom.n new.base new.log c.go_on.new.pipeline.header c.args.reuse.now c.go_on.new.reuse) c.take_notices.ensures.rest
    (known (ap (λ (m : Manner). m.waits_alone) c.take_notices.ensures.spends.spends.same.manner ∙ alone) (heard_taken taken_in.tickets old.log middle.log v w c.take_notices.ensures.hears taken_in.log taken_in.notes knew)))
