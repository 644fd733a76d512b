use Rattle.std.proofs.Common.{ℕ, List, arith, subst, sym}
use Rattle.engine_store.specs.Formatting.{AllAccepted}
use Rattle.engine_store.proofs.Logs.{noticed_below, below_then}
use Rattle.engine_store.proofs.TicketLogs.{all_accepted, on_err}
use Rattle.engine_store.proofs.formatting.make_durable.Goals as goal

pub returns-in_err-wait_for_all-clause-below : goal.returns-in_err-wait_for_all-clause-below
returns-in_err-wait_for_all-clause-below g c = λ tells.
    below_then c.args.end c.args.end _ (g.D.Disk.state c.write_row.new.disk).log _ (omega arith) (c.write_row.ensures.below tells) (noticed_below c.args.end _ _ (c.wait_for_all.ensures.log tells))

pub returns-in_err-wait_for_all-clause-cause : goal.returns-in_err-wait_for_all-clause-cause
returns-in_err-wait_for_all-clause-cause g c = λ tells.
    on_err c.from_residual-in_err-wait_for_all.result (c.in_err-wait_for_all.ensures.cause tells (subst (λ (ts : List ℕ). AllAccepted (g.D.Disk.state c.write_row.new.disk).log ts) (sym c.deref.ensures.value) (all_accepted _ _ _ _ (c.in_ok-write_row.ensures.accepted tells))))

pub returns-clause-below : goal.returns-clause-below
returns-clause-below g c = λ tells.
    below_then c.args.end c.args.end _ (g.D.Disk.state c.write_row.new.disk).log _ (omega arith) (c.write_row.ensures.below tells) (noticed_below c.args.end _ _ (c.wait_for_all.ensures.log tells))
