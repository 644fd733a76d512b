use Rattle.crash_example.proofs.SettlingSteps.{somehow, checkpoint_may, checkpoint_agrees, checkpoint_settles, checkpoint_failed}
use Rattle.crash_example.proofs.Spending.{then_noticed}
use Rattle.crash_example.proofs.settling.checkpoint.Goals as goal

pub returns-in_err-written-clause-placed : goal.returns-in_err-written-clause-placed
returns-in_err-written-clause-placed g c = λ tells s l p t floor count none ends goes alone safe agree.
    let may = checkpoint_may c.the_argument_holds.ensures _ _ l p count _ _ safe.keeps agree none ends goes in
    checkpoint_failed s l p count c.args.block t floor c.from_residual.result _ c.from_residual.ensures.0 (somehow s _ _ l t floor (c.write_in_place.ensures.safe tells s l t floor may safe))

pub returns-in_err-wait_for-clause-placed : goal.returns-in_err-wait_for-clause-placed
returns-in_err-wait_for-clause-placed g c = λ tells s l p t floor count none ends goes alone safe agree.
    let may = checkpoint_may c.the_argument_holds.ensures _ _ l p count _ _ safe.keeps agree none ends goes in
    let written = c.write_in_place.ensures.safe tells s l t floor may safe in
    checkpoint_failed s l p count c.args.block t floor c.from_residual-in_err-wait_for.result _ c.from_residual-in_err-wait_for.ensures.0 (somehow s _ _ l t floor (c.wait_for.ensures.safe tells s l t floor written))

pub returns-clause-placed : goal.returns-clause-placed
returns-clause-placed g c = λ tells s l p t floor count none ends goes alone safe agree.
    let may = checkpoint_may c.the_argument_holds.ensures _ _ l p count _ _ safe.keeps agree none ends goes in
    let written = c.write_in_place.ensures.safe tells s l t floor may safe in
    let agrees = checkpoint_agrees c.the_argument_holds.ensures _ _ l p count _ _ safe.keeps agree none ends goes alone _ _ c.in_ok-written.written written.keeps c.write_in_place.ensures.spends.same.base (c.in_ok-written.ensures.log tells) in
    let known = c.wait_for.ensures.knows tells l _ (written.keeps, agrees) in
    (c.wait_for.ensures.safe tells s l t floor written, checkpoint_settles c.the_argument_holds.ensures _ _ l p count c.args.block c.in_ok-written.written known.0 known.1 (c.in_ok-wait_for.ensures.noticed tells))

pub returns-clause-log : goal.returns-clause-log
returns-clause-log g c = λ tells. then_noticed c.args.block c.in_ok-written.written c.args.bytes.now _ _ _ (c.in_ok-written.ensures.log tells) (c.wait_for.ensures.log tells) (c.in_ok-wait_for.ensures.noticed tells)
