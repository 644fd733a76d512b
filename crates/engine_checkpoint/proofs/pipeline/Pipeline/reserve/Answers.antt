-- The pipeline is the same, and there is room for what is ready now.
use Rattle.std.proofs.Common.{arith}
use Rattle.std.proofs.lemmas.Bool.Decides.{nat_tests}
use Rattle.engine_checkpoint.proofs.Same.{same_twice, same_ready, no_less_twice, order_stays, records_stay, payloads_stay, agrees_stays, ready_now}
use Rattle.engine_checkpoint.proofs.pipeline.Pipeline.reserve.Goals as goal

pub returns-in_err-reserve_states-clause-agrees : goal.returns-in_err-reserve_states-clause-agrees
returns-in_err-reserve_states-clause-agrees c = agrees_stays c.args.self.now c.reserve_states.new.self c.reserve_states.ensures.same

pub returns-in_err-reserve_payloads-clause-agrees : goal.returns-in_err-reserve_payloads-clause-agrees
returns-in_err-reserve_payloads-clause-agrees c = agrees_stays c.args.self.now c.reserve_payloads.new.self (same_twice c.args.self.now c.reserve_states.new.self c.reserve_payloads.new.self c.reserve_states.ensures.same c.reserve_payloads.ensures.same)

pub returns-in_err-reserve_notes-clause-agrees : goal.returns-in_err-reserve_notes-clause-agrees
returns-in_err-reserve_notes-clause-agrees c = grind (arith, nat_tests, same_twice, agrees_stays)

pub returns-clause-agrees : goal.returns-clause-agrees
returns-clause-agrees c = grind (arith, nat_tests, same_twice, agrees_stays, same_ready)

pub returns-clause-fit : goal.returns-clause-fit
returns-clause-fit c =
    let v = c.args.self.now in
    let u = c.reserve_states.new.self in
    let x = c.reserve_payloads.new.self in
    let w = c.reserve_notes.new.self in
    let r = c.ready_upto-ready.result in
    let both = same_twice v u x c.reserve_states.ensures.same c.reserve_payloads.ensures.same in
    let all = same_twice v x w both c.reserve_notes.ensures.same in
    let last = same_twice u x w c.reserve_payloads.ensures.same c.reserve_notes.ensures.same in
    record {
      order = order_stays v (record w { ready = r }) (same_ready v w r all) c.requires.order;
      room = ready_now w r (order_stays v w all c.requires.order) (records_stay u w last r.records (no_less_twice u x w c.reserve_payloads.ensures.no_less c.reserve_notes.ensures.no_less) c.in_ok-reserve_states.ensures.room)
          (payloads_stay x w c.reserve_notes.ensures.same r.payloads c.reserve_notes.ensures.no_less c.in_ok-reserve_payloads.ensures.room) c.in_ok-reserve_notes.ensures.room;
    }
