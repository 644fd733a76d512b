use Rattle.std.proofs.Common.{refl, ◌+◌, ◌∙◌, sym, subst}
use Rattle.base_types.specs.Seal.{Blocks}
use Rattle.disk_contract.specs.Cell.{cell_of}
use Rattle.crash_argument.specs.Mounting.{IsReplayedUpTo}
use Rattle.crash_argument.specs.Replay.{IsReplaying}
use Rattle.crash_argument.proofs.log.Spending.{wait_failed}
use Rattle.crash_argument.proofs.mount.ReplayUpTo.{upto_waited}
use Rattle.crash_argument.proofs.mount.ReplaySteps.{replayed_waited, replayed_failed}
use Rattle.crash_argument.proofs.mount.OpeningSteps.{own_settled, then_waited, then_noticed, failed_write, failed_wait}
use Rattle.disk_contract.specs.declared.disk.DiskFault.{DiskFault}
use Rattle.crash_argument.proofs.log.Given.{given_now, on_err}
use Rattle.crash_argument.proofs.closing.replay_block.Goals as goal

pub returns-in_err-wait-clause-spends : goal.returns-in_err-wait-clause-spends
returns-in_err-wait-clause-spends g c = wait_failed _ _ _ _ c.from_residual-in_err-wait.ensures.0 c.in_ok-ticket.ensures.spends c.in_err-wait.ensures.spends

pub returns-in_err-ticket-clause-log : goal.returns-in_err-ticket-clause-log
returns-in_err-ticket-clause-log g c = λ tells. failed_write _ _ _ _ _ c.in_err-ticket.field-0.0 c.from_residual.result c.from_residual.ensures.0 refl (c.in_err-ticket.ensures.log tells)

pub returns-in_err-wait-clause-log : goal.returns-in_err-wait-clause-log
returns-in_err-wait-clause-log g c = λ tells. failed_wait _ _ _ _ c.from_residual-in_err-wait.result c.from_residual-in_err-wait.ensures.0 (then_waited _ c.in_ok-ticket.ticket _ _ _ _ _ refl (c.in_ok-ticket.ensures.log tells) (c.wait.ensures.log tells))

pub returns-clause-log : goal.returns-clause-log
returns-clause-log g c = λ tells. then_noticed _ c.in_ok-ticket.ticket _ _ _ _ _ refl (c.in_ok-ticket.ensures.log tells) (c.wait.ensures.log tells) (c.in_ok-wait.ensures.noticed tells)

pub returns-in_err-ticket-clause-goes_on : goal.returns-in_err-ticket-clause-goes_on
returns-in_err-ticket-clause-goes_on g c = λ tells n at slot old_slot h closed run x found low covered r.
    let both = replayed_failed c.the_journal_is_lawful.ensures n (g.D.Disk.state c.args.disk.now).base at slot old_slot h closed run found c.args.block c.args.bytes.now x low covered _ _ c.in_err-ticket.field-0.0 r (c.in_err-ticket.ensures.log tells) in
    (subst (λ (b : Blocks). IsReplaying n (cell_of b (g.D.Disk.state c.write.new.self).log) at slot h closed run) (sym c.write.ensures.spends.same.base) both.0, both.1)

pub returns-in_err-wait-clause-goes_on : goal.returns-in_err-wait-clause-goes_on
returns-in_err-wait-clause-goes_on g c = λ tells n at slot old_slot h closed run x found low covered r.
    let both = replayed_waited c.the_journal_is_lawful.ensures n (g.D.Disk.state c.args.disk.now).base at slot old_slot h closed run found c.args.block c.args.bytes.now x low covered _ _ r (then_waited _ c.in_ok-ticket.ticket _ _ _ _ _ refl (c.in_ok-ticket.ensures.log tells) (c.wait.ensures.log tells)) in
    (subst (λ (b : Blocks). IsReplaying n (cell_of b (g.D.Disk.state c.wait.new.self).log) at slot h closed run) (sym (c.wait.ensures.spends.same.base ∙ c.write.ensures.spends.same.base)) both.0, both.1)

pub returns-clause-goes_on : goal.returns-clause-goes_on
returns-clause-goes_on g c = λ tells n at slot old_slot h closed run x found low covered r.
    let both = replayed_waited c.the_journal_is_lawful.ensures n (g.D.Disk.state c.args.disk.now).base at slot old_slot h closed run found c.args.block c.args.bytes.now x low covered _ _ r (then_waited _ c.in_ok-ticket.ticket _ _ _ _ _ refl (c.in_ok-ticket.ensures.log tells) (c.wait.ensures.log tells)) in
    (subst (λ (b : Blocks). IsReplaying n (cell_of b (g.D.Disk.state c.wait.new.self).log) at slot h closed run) (sym (c.wait.ensures.spends.same.base ∙ c.write.ensures.spends.same.base)) both.0, both.1)

pub returns-clause-placed : goal.returns-clause-placed
returns-clause-placed g c = λ tells.
    let done = then_noticed c.args.block c.in_ok-ticket.ticket c.args.bytes.now c.args.bytes.now _ _ _ refl (c.in_ok-ticket.ensures.log tells) (c.wait.ensures.log tells) (c.in_ok-wait.ensures.noticed tells) in
    own_settled (g.D.Disk.state c.wait.new.self).base _ _ c.args.block c.args.bytes.now done.0 done.1

pub returns-clause-next : goal.returns-clause-next
returns-clause-next g c = λ tells n at slot old_slot h closed run found low covered r.
    let done = then_noticed c.args.block c.in_ok-ticket.ticket c.args.bytes.now c.args.bytes.now _ _ _ refl (c.in_ok-ticket.ensures.log tells) (c.wait.ensures.log tells) (c.in_ok-wait.ensures.noticed tells) in
    subst (λ (b : Blocks). IsReplayedUpTo n (cell_of b (g.D.Disk.state c.wait.new.self).log) at slot h closed run (c.args.block + 1)) (sym (c.wait.ensures.spends.same.base ∙ c.write.ensures.spends.same.base))
    (upto_waited c.the_journal_is_lawful.ensures n (g.D.Disk.state c.args.disk.now).base at slot old_slot h closed run found c.args.block c.args.bytes.now low covered _ _ r done.0 done.1)

pub returns-in_err-ticket-clause-cause : goal.returns-in_err-ticket-clause-cause
returns-in_err-ticket-clause-cause g c = λ tells. on_err c.from_residual.result (c.in_err-ticket.ensures.cause tells)

pub returns-in_err-wait-clause-cause : goal.returns-in_err-wait-clause-cause
returns-in_err-wait-clause-cause g c = λ tells. on_err c.from_residual-in_err-wait.result (c.in_err-wait.ensures.cause tells (given_now DiskFault _ _ _ _ _ (c.in_ok-ticket.ensures.log tells)))
