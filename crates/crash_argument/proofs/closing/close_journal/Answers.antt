use Rattle.std.proofs.Common.{inl, inr, ◌-◌, length, ◌∙◌, sym, ap, subst}
use Rattle.base_types.specs.Seal.{Blocks}
use Rattle.disk_contract.specs.Cell.{cell_of}
use Rattle.layout_journal.specs.Spelling.{header_block}
use Rattle.layout_geometry.specs.Geometry.{bitmap_start}
use Rattle.crash_argument.specs.Mounting.{IsReplayedUpTo}
use Rattle.crash_argument.specs.Ledger.{cells_of}
use Rattle.crash_argument.specs.Opening.{closed_header, settled}
use Rattle.crash_argument.proofs.log.Spending.{wait_failed}
use Rattle.crash_argument.proofs.mount.OpeningMoments.{holds_closed, closed_upto}
use Rattle.crash_argument.proofs.mount.OpeningSteps.{closing_is, then_waited, then_noticed, failed_write, failed_wait}
use Rattle.disk_contract.specs.declared.disk.DiskFault.{DiskFault}
use Rattle.crash_argument.proofs.log.Given.{given_now, on_err}
use Rattle.crash_argument.proofs.closing.close_journal.Goals as goal

pub returns-in_err-wait-clause-spends : goal.returns-in_err-wait-clause-spends
returns-in_err-wait-clause-spends g c = wait_failed _ _ _ _ c.from_residual-in_err-wait.ensures.0 c.in_ok-ticket.ensures.spends c.in_err-wait.ensures.spends

pub returns-in_err-ticket-clause-log : goal.returns-in_err-ticket-clause-log
returns-in_err-ticket-clause-log g c = λ tells. failed_write _ _ _ _ _ c.in_err-ticket.field-0.0 c.from_residual.result c.from_residual.ensures.0 (c.write_header.ensures ∙ ap header_block c.closed_header-header.ensures.is) (c.in_err-ticket.ensures.log tells)

pub returns-in_err-wait-clause-log : goal.returns-in_err-wait-clause-log
returns-in_err-wait-clause-log g c = λ tells. failed_wait _ _ _ _ c.from_residual-in_err-wait.result c.from_residual-in_err-wait.ensures.0 (then_waited _ c.in_ok-ticket.ticket _ _ _ _ _ (c.write_header.ensures ∙ ap header_block c.closed_header-header.ensures.is) (c.in_ok-ticket.ensures.log tells) (c.wait.ensures.log tells))

pub returns-clause-log : goal.returns-clause-log
returns-clause-log g c = λ tells. then_noticed _ c.in_ok-ticket.ticket _ _ _ _ _ (c.write_header.ensures ∙ ap header_block c.closed_header-header.ensures.is) (c.in_ok-ticket.ensures.log tells) (c.wait.ensures.log tells) (c.in_ok-wait.ensures.noticed tells)

pub returns-in_err-ticket-clause-holds : goal.returns-in_err-ticket-clause-holds
returns-in_err-ticket-clause-holds g c = λ tells run idle found is_last. holds_closed c.the_journal_is_lawful.ensures c.journal_blocks_read_back.ensures.headers _ _ c.args.slot c.args.newest.now c.args.last run idle found is_last (closing_is c.args.newest.now c.args.last (length run) _ (c.the_journal_is_lawful.ensures.header_bounds _ _ c.args.newest.now found.newest.stands) is_last c.closed_header-header.ensures.epoch c.requires.turn c.closed_header-header.ensures.start c.ranges.last.fits) _ (inr (_, c.in_err-ticket.field-0.0, c.write_header.ensures ∙ ap header_block c.closed_header-header.ensures.is, c.in_err-ticket.ensures.log tells))

pub returns-in_err-wait-clause-holds : goal.returns-in_err-wait-clause-holds
returns-in_err-wait-clause-holds g c = λ tells run idle found is_last. holds_closed c.the_journal_is_lawful.ensures c.journal_blocks_read_back.ensures.headers _ _ c.args.slot c.args.newest.now c.args.last run idle found is_last (closing_is c.args.newest.now c.args.last (length run) _ (c.the_journal_is_lawful.ensures.header_bounds _ _ c.args.newest.now found.newest.stands) is_last c.closed_header-header.ensures.epoch c.requires.turn c.closed_header-header.ensures.start c.ranges.last.fits) _ (inl (then_waited _ c.in_ok-ticket.ticket _ _ _ _ _ (c.write_header.ensures ∙ ap header_block c.closed_header-header.ensures.is) (c.in_ok-ticket.ensures.log tells) (c.wait.ensures.log tells)))

pub returns-clause-holds : goal.returns-clause-holds
returns-clause-holds g c = λ tells run idle found is_last. holds_closed c.the_journal_is_lawful.ensures c.journal_blocks_read_back.ensures.headers _ _ c.args.slot c.args.newest.now c.args.last run idle found is_last (closing_is c.args.newest.now c.args.last (length run) _ (c.the_journal_is_lawful.ensures.header_bounds _ _ c.args.newest.now found.newest.stands) is_last c.closed_header-header.ensures.epoch c.requires.turn c.closed_header-header.ensures.start c.ranges.last.fits) _ (inl (then_waited _ c.in_ok-ticket.ticket _ _ _ _ _ (c.write_header.ensures ∙ ap header_block c.closed_header-header.ensures.is) (c.in_ok-ticket.ensures.log tells) (c.wait.ensures.log tells)))

pub returns-clause-closed : goal.returns-clause-closed
returns-clause-closed g c = λ tells run idle found is_last.
    let done = then_noticed (1 - c.args.slot) c.in_ok-ticket.ticket (header_block (closed_header c.args.newest.now c.args.last)) c.write_header.new.into _ _ _ (c.write_header.ensures ∙ ap header_block c.closed_header-header.ensures.is) (c.in_ok-ticket.ensures.log tells) (c.wait.ensures.log tells) (c.in_ok-wait.ensures.noticed tells) in
    subst (λ (b : Blocks). IsReplayedUpTo c.args.newest.now.geom.n (cell_of b (g.D.Disk.state c.wait.new.self).log) (settled (cells_of (g.D.Disk.state c.args.disk.now))) (1 - c.args.slot) c.args.newest.now (closed_header c.args.newest.now c.args.last) run (bitmap_start c.args.newest.now.geom)) (sym (c.wait.ensures.spends.same.base ∙ c.write.ensures.spends.same.base))
    (closed_upto c.the_journal_is_lawful.ensures c.journal_blocks_read_back.ensures.headers _ _ c.args.slot c.args.newest.now c.args.last run idle found is_last (closing_is c.args.newest.now c.args.last (length run) _ (c.the_journal_is_lawful.ensures.header_bounds _ _ c.args.newest.now found.newest.stands) is_last c.closed_header-header.ensures.epoch c.requires.turn c.closed_header-header.ensures.start c.ranges.last.fits) _ done.0 done.1)

pub returns-in_err-ticket-clause-cause : goal.returns-in_err-ticket-clause-cause
returns-in_err-ticket-clause-cause g c = λ tells. on_err c.from_residual.result (c.in_err-ticket.ensures.cause tells)

pub returns-in_err-wait-clause-cause : goal.returns-in_err-wait-clause-cause
returns-in_err-wait-clause-cause g c = λ tells. on_err c.from_residual-in_err-wait.result (c.in_err-wait.ensures.cause tells (given_now DiskFault _ _ _ _ _ (c.in_ok-ticket.ensures.log tells)))
