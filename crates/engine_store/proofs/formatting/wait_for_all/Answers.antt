use Rattle.std.proofs.Common.{refl, arith}
use Rattle.engine_store.proofs.Logs.{notices_then, one_more_noticed}
use Rattle.engine_store.proofs.TicketLogs.{given_still, on_err}
use Rattle.engine_store.proofs.Spending.{waits_on, wait_failed}
use Rattle.engine_store.proofs.formatting.wait_for_all.Goals as goal

pub returns-in_err-wait-clause-log : goal.returns-in_err-wait-clause-log
returns-in_err-wait-clause-log g c = λ tells. notices_then _ (g.D.Disk.state c.loop-ticket.disk).log _ (c.loop-ticket.invariant.notices tells) (c.wait.ensures.log tells)

pub returns-in_err-wait-clause-spends : goal.returns-in_err-wait-clause-spends
returns-in_err-wait-clause-spends g c =
    wait_failed _ c.loop-ticket.ticket-index _ _ (g.D.Disk.state c.loop-ticket.disk) _ c.from_residual.ensures.0 (omega (arith, c.loop-ticket-test.true)) c.loop-ticket.invariant.spent c.in_err-wait.ensures.spends

pub returns-in_err-wait-clause-cause : goal.returns-in_err-wait-clause-cause
returns-in_err-wait-clause-cause g c = λ tells given.
    on_err c.from_residual.result (c.in_err-wait.ensures.cause tells (given_still c.args.tickets.now c.loop-ticket.ticket-index (g.D.Disk.state c.args.disk.now).log (g.D.Disk.state c.loop-ticket.disk).log c.loop-ticket-test.true given (c.loop-ticket.invariant.notices tells)))

pub loop-ticket-preserved : goal.loop-ticket-preserved
loop-ticket-preserved g c =
    record {
      spent = waits_on c.loop-ticket.ticket-index _ _ (g.D.Disk.state c.loop-ticket.disk) _ refl c.loop-ticket.invariant.spent c.in_ok-wait.ensures.spends;
      notices = λ tells. notices_then _ (g.D.Disk.state c.loop-ticket.disk).log _ (c.loop-ticket.invariant.notices tells) (c.wait.ensures.log tells);
      noticed = λ tells. one_more_noticed c.args.tickets.now c.loop-ticket.ticket-index (g.D.Disk.state c.loop-ticket.disk).log _ c.loop-ticket-test.true (c.loop-ticket.invariant.noticed tells) (c.wait.ensures.log tells) (c.in_ok-wait.ensures.noticed tells);
    }
