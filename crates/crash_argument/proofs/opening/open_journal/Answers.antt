use Rattle.std.proofs.Common.{inl, inr, ◌-◌, ◌∙◌, ap}
use Rattle.layout_journal.specs.Spelling.{header_block}
use Rattle.crash_argument.specs.Opening.{opening_header}
use Rattle.crash_argument.proofs.mount.OpeningMoments.{holds, holds_found}
use Rattle.crash_argument.proofs.mount.OpeningSteps.{opened, then_waited, then_noticed, failed_write, failed_wait, is_low}
use Rattle.crash_argument.proofs.mount.OnlyWrite.{one_written, stopped_writing, stopped_waiting}
use Rattle.crash_argument.proofs.mount.Mounted.{mounted_safe}
use Rattle.crash_argument.proofs.mount.Begun.{begins_with, has_begun}
use Rattle.crash_argument.proofs.log.Spending.{wait_failed}
use Rattle.disk_contract.specs.declared.disk.DiskFault.{DiskFault}
use Rattle.crash_argument.proofs.log.Given.{given_now, on_err}
use Rattle.crash_argument.proofs.opening.open_journal.Goals as goal

pub returns-in_err-wait-clause-spends : goal.returns-in_err-wait-clause-spends
returns-in_err-wait-clause-spends g c = wait_failed _ _ _ _ c.from_residual-in_err-wait.ensures.0 c.in_ok-ticket.ensures.spends c.in_err-wait.ensures.spends

pub returns-in_err-ticket-clause-log : goal.returns-in_err-ticket-clause-log
returns-in_err-ticket-clause-log g c = λ tells.
    failed_write _ _ _ _ _ c.in_err-ticket.field-0.0 c.from_residual.result c.from_residual.ensures.0 (c.write_header.ensures ∙ ap header_block c.opening_header-header.ensures) (c.in_err-ticket.ensures.log tells)

pub returns-in_err-wait-clause-log : goal.returns-in_err-wait-clause-log
returns-in_err-wait-clause-log g c = λ tells.
    failed_wait _ _ _ _ c.from_residual-in_err-wait.result c.from_residual-in_err-wait.ensures.0
    (then_waited _ c.in_ok-ticket.ticket _ _ _ _ _ (c.write_header.ensures ∙ ap header_block c.opening_header-header.ensures) (c.in_ok-ticket.ensures.log tells) (c.wait.ensures.log tells))

pub returns-clause-opened : goal.returns-clause-opened
returns-clause-opened g c = λ tells ready.
    let done = then_noticed (1 - c.args.slot) c.in_ok-ticket.ticket (header_block (opening_header c.args.newest.now c.args.last c.args.greatest_epoch)) c.write_header.new.into _ _ _ (c.write_header.ensures ∙ ap header_block c.opening_header-header.ensures) (c.in_ok-ticket.ensures.log tells) (c.wait.ensures.log tells) (c.in_ok-wait.ensures.noticed tells) in
    let mounted = opened c.the_journal_is_lawful.ensures c.journal_blocks_read_back.ensures.headers _ _ _ c.args.slot c.args.newest.now c.args.last c.args.greatest_epoch c.requires.epoch c.requires.turn c.requires.last ready done.0 done.1 in
    has_begun (g.D.Disk.state c.wait.new.self) _ c.args.newest.now.geom (1 - c.args.slot) (opening_header c.args.newest.now c.args.last c.args.greatest_epoch) _ (c.wait.ensures.spends.same.base ∙ c.write.ensures.spends.same.base) mounted
    (mounted_safe c.the_journal_is_lawful.ensures _ _ _ _ _ mounted)
    (begins_with c.the_journal_is_lawful.ensures _ _ _ c.args.newest.now.geom (1 - c.args.slot) (1 - c.args.slot) _ _ (is_low c.args.slot) ready.idle done.0 mounted)

pub returns-in_err-ticket-clause-holds : goal.returns-in_err-ticket-clause-holds
returns-in_err-ticket-clause-holds g c = λ tells ready run.
    holds c.the_journal_is_lawful.ensures c.journal_blocks_read_back.ensures.headers _ _ c.args.slot c.args.newest.now c.args.last c.args.greatest_epoch c.requires.epoch c.requires.turn c.requires.last ready run _
    (inr (_, c.in_err-ticket.field-0.0, c.write_header.ensures ∙ ap header_block c.opening_header-header.ensures, c.in_err-ticket.ensures.log tells))

pub returns-in_err-ticket-clause-replayed : goal.returns-in_err-ticket-clause-replayed
returns-in_err-ticket-clause-replayed g c = λ tells was old_slot h run ready found done.
    holds_found c.the_journal_is_lawful.ensures c.journal_blocks_read_back.ensures.headers _ _ c.args.slot c.args.newest.now c.args.last c.args.greatest_epoch c.requires.epoch c.requires.turn c.requires.last ready was old_slot h run found done _
    (inr (_, c.in_err-ticket.field-0.0, c.write_header.ensures ∙ ap header_block c.opening_header-header.ensures, c.in_err-ticket.ensures.log tells))

pub returns-in_err-wait-clause-holds : goal.returns-in_err-wait-clause-holds
returns-in_err-wait-clause-holds g c = λ tells ready run.
    holds c.the_journal_is_lawful.ensures c.journal_blocks_read_back.ensures.headers _ _ c.args.slot c.args.newest.now c.args.last c.args.greatest_epoch c.requires.epoch c.requires.turn c.requires.last ready run _
    (inl (then_waited _ c.in_ok-ticket.ticket _ _ _ _ _ (c.write_header.ensures ∙ ap header_block c.opening_header-header.ensures) (c.in_ok-ticket.ensures.log tells) (c.wait.ensures.log tells)))

pub returns-in_err-wait-clause-replayed : goal.returns-in_err-wait-clause-replayed
returns-in_err-wait-clause-replayed g c = λ tells was old_slot h run ready found done.
    holds_found c.the_journal_is_lawful.ensures c.journal_blocks_read_back.ensures.headers _ _ c.args.slot c.args.newest.now c.args.last c.args.greatest_epoch c.requires.epoch c.requires.turn c.requires.last ready was old_slot h run found done _
    (inl (then_waited _ c.in_ok-ticket.ticket _ _ _ _ _ (c.write_header.ensures ∙ ap header_block c.opening_header-header.ensures) (c.in_ok-ticket.ensures.log tells) (c.wait.ensures.log tells)))

pub returns-clause-holds : goal.returns-clause-holds
returns-clause-holds g c = λ tells ready run.
    holds c.the_journal_is_lawful.ensures c.journal_blocks_read_back.ensures.headers _ _ c.args.slot c.args.newest.now c.args.last c.args.greatest_epoch c.requires.epoch c.requires.turn c.requires.last ready run _
    (inl (then_waited _ c.in_ok-ticket.ticket _ _ _ _ _ (c.write_header.ensures ∙ ap header_block c.opening_header-header.ensures) (c.in_ok-ticket.ensures.log tells) (c.wait.ensures.log tells)))

pub returns-clause-replayed : goal.returns-clause-replayed
returns-clause-replayed g c = λ tells was old_slot h run ready found done.
    holds_found c.the_journal_is_lawful.ensures c.journal_blocks_read_back.ensures.headers _ _ c.args.slot c.args.newest.now c.args.last c.args.greatest_epoch c.requires.epoch c.requires.turn c.requires.last ready was old_slot h run found done _
    (inl (then_waited _ c.in_ok-ticket.ticket _ _ _ _ _ (c.write_header.ensures ∙ ap header_block c.opening_header-header.ensures) (c.in_ok-ticket.ensures.log tells) (c.wait.ensures.log tells)))

pub returns-clause-log : goal.returns-clause-log
returns-clause-log g c = λ tells.
    then_noticed _ c.in_ok-ticket.ticket _ _ _ _ _ (c.write_header.ensures ∙ ap header_block c.opening_header-header.ensures) (c.in_ok-ticket.ensures.log tells) (c.wait.ensures.log tells) (c.in_ok-wait.ensures.noticed tells)

pub returns-in_err-ticket-clause-cause : goal.returns-in_err-ticket-clause-cause
returns-in_err-ticket-clause-cause g c = λ tells. on_err c.from_residual.result (c.in_err-ticket.ensures.cause tells)

pub returns-in_err-wait-clause-cause : goal.returns-in_err-wait-clause-cause
returns-in_err-wait-clause-cause g c = λ tells. on_err c.from_residual-in_err-wait.result (c.in_err-wait.ensures.cause tells (given_now DiskFault _ _ _ _ _ (c.in_ok-ticket.ensures.log tells)))

pub returns-in_err-ticket-clause-alone : goal.returns-in_err-ticket-clause-alone
returns-in_err-ticket-clause-alone g c = λ tells. stopped_writing (g.D.Disk.state c.args.disk.now).manner c.from_residual.result _ _ _ _ c.in_err-ticket.field-0.0 c.from_residual.ensures.0 (c.in_err-ticket.ensures.log tells)

pub returns-in_err-wait-clause-alone : goal.returns-in_err-wait-clause-alone
returns-in_err-wait-clause-alone g c = λ tells. stopped_waiting (g.D.Disk.state c.args.disk.now).manner (g.D.Disk.state c.write.new.self).manner c.from_residual-in_err-wait.result _ _ c.from_residual-in_err-wait.ensures.0
    (one_written DiskFault _ c.in_ok-ticket.ticket _ _ _ _ (c.in_ok-ticket.ensures.log tells) (c.wait.ensures.log tells))
    c.write.ensures.spends.same.manner
    (c.in_err-wait.ensures.stalls tells (given_now DiskFault _ _ _ _ _ (c.in_ok-ticket.ensures.log tells)))

pub returns-clause-alone : goal.returns-clause-alone
returns-clause-alone g c = λ tells. one_written DiskFault _ c.in_ok-ticket.ticket _ _ _ _ (c.in_ok-ticket.ensures.log tells) (c.wait.ensures.log tells)
