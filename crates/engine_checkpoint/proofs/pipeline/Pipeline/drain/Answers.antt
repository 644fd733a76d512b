-- Round after round, and then blocks serve again.
use Rattle.std.proofs.Common.{rules, ◌+◌, true, false, Ok, is_err, subst, arith}
use Rattle.engine_checkpoint.proofs.GoesRows.{goes_then, goes_fault, goes_upto, goes_nowhere, goes_served}
use Rattle.engine_checkpoint.specs.Waits.{WaitsSome}
use Rattle.engine_checkpoint.specs.declared.pipeline.Pipeline.{Pipeline}
use Rattle.engine_checkpoint.proofs.Rounds.{served_drained}
use Rattle.engine_checkpoint.proofs.Spent.{failed_waits, waits_on, on_err}
use Rattle.engine_checkpoint.proofs.pipeline.Pipeline.drain.Goals as goal

pub returns-in_err-drain_once-clause-goes : goal.returns-in_err-drain_once-clause-goes
returns-in_err-drain_once-clause-goes g c =
    let was = c.loop-round.invariant in
    goes_upto (c.loop-round.round + 1) 4 (omega (arith, c.loop-round-test.true)) (goes_then c.from_residual.result c.loop-round.round 1 was.goes (goes_fault c.in_err-drain_once.field-0.0 c.from_residual.result c.from_residual.ensures.0 c.in_err-drain_once.ensures.goes) was.spends.spends.same.manner)

pub returns-in_err-drain_once-clause-spends : goal.returns-in_err-drain_once-clause-spends
returns-in_err-drain_once-clause-spends g c = failed_waits _ _ _ c.from_residual.ensures.0 (waits_on true _ _ _ c.loop-round.invariant.spends (subst (λ r. WaitsSome (is_err r) (g.D.Disk.state c.loop-round.disk) (g.D.Disk.state c.drain_once.new.disk)) c.in_err-drain_once.was c.drain_once.ensures.spends))

pub loop-round-init : goal.loop-round-init
loop-round-init g c = record { goes = goes_nowhere (Ok tt) c.the_newest_payloads_are_the_map.ensures.calm c.requires.sound; stage = tt; spends = search rules }

pub loop-round-preserved : goal.loop-round-preserved
loop-round-preserved g c =
    let was = c.loop-round.invariant in
    record {
      goes = goes_then (Ok c.in_ok-drain_once.field-0) c.loop-round.round 1 was.goes c.in_ok-drain_once.ensures.goes was.spends.spends.same.manner;
      stage = c.in_ok-drain_once.ensures.stage c.loop-round.round was.stage;
      spends = waits_on false _ _ _ was.spends c.in_ok-drain_once.ensures.spends;
    }

pub returns-clause-goes : goal.returns-clause-goes
returns-clause-goes g c =
    let was = c.loop-round.invariant in
    let rest = goes_served {tells = g.D.Disk.tells} {d = g.D.Disk.state c.loop-round.disk} c.serve_blocks.ensures.serves c.serve_blocks.ensures.rest c.the_newest_payloads_are_the_map.ensures.calm c.calls_change_what_is_dead.ensures.released c.lawful.ensures c.a_freed_block_waits.ensures.stays c.fewer_may_wait.ensures was.goes.sound c.serve_blocks.ensures.fit in
    goes_upto (c.loop-round.round + 0) 4 (omega (arith, c.loop-round.auto.round-end)) (goes_then (Ok tt) c.loop-round.round 0 was.goes rest was.spends.spends.same.manner)

pub returns-clause-drained : goal.returns-clause-drained
returns-clause-drained g c = served_drained c.loop-round.self c.serve_blocks.new.pipeline c.loop-round.ring c.loop-round.reuse c.serve_blocks.new.reuse c.serve_blocks.ensures.serves c.serve_blocks.ensures.rest c.loop-round.round (omega (arith, c.loop-round.auto.round-end, c.loop-round-test.false)) c.loop-round.invariant.stage c.loop-round.invariant.goes.sound

pub returns-in_err-drain_once-clause-cause : goal.returns-in_err-drain_once-clause-cause
returns-in_err-drain_once-clause-cause g c = λ tells s l t floor taken right. on_err c.from_residual.result (c.in_err-drain_once.ensures.cause tells (c.loop-round.invariant.goes.right tells s l t floor taken right).right.agrees.given)
