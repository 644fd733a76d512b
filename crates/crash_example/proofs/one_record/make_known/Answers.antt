use Rattle.std.proofs.Common.{[], ◌∙◌, arith}
use Rattle.crash_example.proofs.Orders.{amid_then, amid_noticed}
use Rattle.crash_example.proofs.Spending.{spends_one, spends_last}
use Rattle.crash_example.proofs.RecordClient.{next_noticed, all_noticed}
use Rattle.crash_example.proofs.one_record.make_known.Goals as goal

pub returns-in_err-wait_for-clause-knows : goal.returns-in_err-wait_for-clause-knows
returns-in_err-wait_for-clause-knows g c = λ tells k p h. c.wait_for.ensures.knows tells k p (c.loop-ticket.invariant.knows tells k p h)

pub loop-ticket-preserved : goal.loop-ticket-preserved
loop-ticket-preserved g c = record {
  log = λ tells. amid_then [] [] [] [] _ _ _ (c.loop-ticket.invariant.log tells) (amid_noticed _ _ (c.wait_for.ensures.log tells));
  spent = spends_one (g.D.Disk.state c.args.disk.now) _ _ c.loop-ticket.ticket-index c.loop-ticket.invariant.spent c.in_ok-wait_for.ensures.spends;
  safe = λ tells s k t floor h. c.wait_for.ensures.safe tells s k t floor (c.loop-ticket.invariant.safe tells s k t floor h);
  knows = λ tells k p h. c.wait_for.ensures.knows tells k p (c.loop-ticket.invariant.knows tells k p h);
  noticed = λ tells. next_noticed _ _ c.args.tickets.now c.loop-ticket.ticket-index (omega (arith, c.loop-ticket-test.true, c.told-tickets)) (c.wait_for.ensures.log tells) (c.loop-ticket.invariant.noticed tells) (c.in_ok-wait_for.ensures.noticed tells);
}

pub returns-clause-noticed : goal.returns-clause-noticed
returns-clause-noticed g c = λ tells. all_noticed (g.D.Disk.state c.loop-ticket.disk).log c.args.tickets.now c.loop-ticket.ticket-index (omega (arith, c.loop-ticket-test.false, c.told-tickets)) (c.loop-ticket.invariant.noticed tells)

pub returns-in_err-wait_for-clause-spends : goal.returns-in_err-wait_for-clause-spends
returns-in_err-wait_for-clause-spends g c = spends_last _ _ _ _ c.loop-ticket.ticket-index 4 c.from_residual.ensures.0 (omega (arith, c.loop-ticket-test.true, c.told-tickets)) c.loop-ticket.invariant.spent c.in_err-wait_for.ensures.spends

pub returns-in_err-wait_for-clause-log : goal.returns-in_err-wait_for-clause-log
returns-in_err-wait_for-clause-log g c = λ tells. amid_then [] [] [] [] _ _ _ (c.loop-ticket.invariant.log tells) (amid_noticed _ _ (c.wait_for.ensures.log tells))
