use Rattle.std.proofs.Common.{◌-◌, ⊎_elim, ap}
use Rattle.crash_argument.specs.PipelineData.{next_header}
use Rattle.crash_argument.specs.Steps.{with_header}
use Rattle.crash_example.proofs.SettlingSteps.{somehow, header_agrees, header_settles, header_failed}
use Rattle.crash_example.proofs.Spending.{then_noticed}
use Rattle.crash_example.proofs.settling.make_sure.Goals as goal

pub returns-in_err-ticket-clause-turned : goal.returns-in_err-ticket-clause-turned
returns-in_err-ticket-clause-turned g c = λ tells s l p t floor is alone reads safe agree.
    let h = next_header l p.placed in
    let may = c.the_argument_holds.ensures.header_may _ _ l p _ safe.keeps agree alone reads in
    header_failed s l p h t floor c.from_residual.result _ c.from_residual.ensures.0
    (⊎_elim (λ none. somehow s _ _ l t floor none.1) (λ lost. somehow s _ _ (with_header l h) t floor lost) (c.in_err-ticket.ensures.safe tells s l h t floor (ap (λ n. 1 - n) is) may safe))

pub returns-in_err-wait_for-clause-turned : goal.returns-in_err-wait_for-clause-turned
returns-in_err-wait_for-clause-turned g c = λ tells s l p t floor is alone reads safe agree.
    let h = next_header l p.placed in
    let may = c.the_argument_holds.ensures.header_may _ _ l p _ safe.keeps agree alone reads in
    let written = c.in_ok-ticket.ensures.safe tells s l h t floor (ap (λ n. 1 - n) is) may safe in
    header_failed s l p h t floor c.from_residual-in_err-wait_for.result _ c.from_residual-in_err-wait_for.ensures.0 (somehow s _ _ (with_header l h) t floor (c.wait_for.ensures.safe tells s (with_header l h) t floor written))

pub returns-clause-turned : goal.returns-clause-turned
returns-clause-turned g c = λ tells s l p t floor is alone reads safe agree.
    let h = next_header l p.placed in
    let may = c.the_argument_holds.ensures.header_may _ _ l p _ safe.keeps agree alone reads in
    let written = c.in_ok-ticket.ensures.safe tells s l h t floor (ap (λ n. 1 - n) is) may safe in
    let agrees = header_agrees c.the_argument_holds.ensures _ _ _ _ l p _ c.in_ok-ticket.ticket _ safe.keeps agree alone reads c.write_header.ensures.spends.same.base (ap (λ n. 1 - n) is) (c.in_ok-ticket.ensures.log tells) in
    header_settles c.the_argument_holds.ensures s _ _ l p h t floor c.in_ok-ticket.ticket (c.wait_for.ensures.safe tells s (with_header l h) t floor written)
    (c.wait_for.ensures.knows tells (with_header l h) _ (written.keeps, agrees)).1 (c.in_ok-wait_for.ensures.noticed tells)

pub returns-clause-log : goal.returns-clause-log
returns-clause-log g c = λ tells. then_noticed (1 - c.args.slot) c.in_ok-ticket.ticket c.args.header.now _ _ _ (c.in_ok-ticket.ensures.log tells) (c.wait_for.ensures.log tells) (c.in_ok-wait_for.ensures.noticed tells)
