-- Path by path, and all in the end; or the session refuses one of the commands.
use Rattle.std.proofs.Common.{◌≡◌, Err, Result, arith, rules, subst}
use Rattle.engine_store.specs.StoreOf.{state_of}
use Rattle.fs_commands.specs.Opened.{blocks_in}
use Rattle.cmd_upgrade.specs.declared.refusal.UpgradeRefusal.{UpgradeRefusal}
use Rattle.cmd_upgrade.specs.Looked.{MakesOn}
use Rattle.cmd_upgrade.proofs.Keeping.{stays_here, stays_on}
use Rattle.cmd_upgrade.proofs.PathLoop.{all_paths, failed_with, front_all, front_more, front_none, front_stops, lacks}
use Rattle.cmd_upgrade.proofs.filling.make_paths.Goals as goal

pub loop-place-init : goal.loop-place-init
loop-place-init g c =
    let new = state_of g.D.Disk.state (blocks_in c.args.new.now) in
    record { upto = omega arith; keeps = stays_here g.D.Disk.tells new; makes = front_none g.D.Disk.tells c.args.plan.now new }

pub loop-place-preserved : goal.loop-place-preserved
loop-place-preserved g c =
    let known = g.D.Disk.state in
    record {
      upto = omega (arith, c.loop-place-test.true);
      keeps = stays_on g.D.Disk.tells (state_of known (blocks_in c.args.new.now)) (state_of known (blocks_in c.loop-place.new)) (state_of known (blocks_in c.ask.new.served)) c.loop-place.invariant.keeps c.ask.ensures.keeps;
      makes = front_more g.D.Disk.tells c.args.plan.now c.loop-place.place (state_of known (blocks_in c.args.new.now)) (state_of known (blocks_in c.loop-place.new)) (state_of known (blocks_in c.ask.new.served)) c.in_ok-cmd.cmd
          c.loop-place.invariant.makes (omega (arith, c.loop-place-test.true)) c.in_ok-cmd.ensures.command c.in_ok-ask.ensures.makes;
    }

pub returns-in_err-ask-clause-keeps : goal.returns-in_err-ask-clause-keeps
returns-in_err-ask-clause-keeps g c =
    let known = g.D.Disk.state in
    stays_on g.D.Disk.tells (state_of known (blocks_in c.args.new.now)) (state_of known (blocks_in c.loop-place.new)) (state_of known (blocks_in c.ask.new.served)) c.loop-place.invariant.keeps c.ask.ensures.keeps

pub returns-clause-makes : goal.returns-clause-makes
returns-clause-makes g c = λ limit t l ok whole.
    let known = g.D.Disk.state in
    front_all g.D.Disk.tells c.args.plan.now c.loop-place.place (state_of known (blocks_in c.args.new.now)) (state_of known (blocks_in c.loop-place.new)) c.loop-place.invariant.makes
    (omega (arith, c.loop-place-test.false)) limit t l ok whole

pub returns-in_err-ask-clause-makes : goal.returns-in_err-ask-clause-makes
returns-in_err-ask-clause-makes g c = λ limit t l ok whole.
    let known = g.D.Disk.state in
    let same = failed_with c.from_residual-in_err-ask.result c.in_err-ask.field-0.0 c.from_residual-in_err-ask.ensures in
    subst (λ (r : Result (Unit {0}) UpgradeRefusal). MakesOn g.D.Disk.tells (all_paths t) (state_of known (blocks_in c.args.new.now)) (state_of known (blocks_in c.ask.new.served)) r) same
    (front_stops g.D.Disk.tells c.args.plan.now c.loop-place.place (state_of known (blocks_in c.args.new.now)) (state_of known (blocks_in c.loop-place.new)) (state_of known (blocks_in c.ask.new.served)) c.in_ok-cmd.cmd
    c.loop-place.invariant.makes (omega (arith, c.loop-place-test.true)) c.in_ok-cmd.ensures.command c.in_err-ask.field-0.0 c.in_err-ask.ensures.makes limit t l ok whole)

pub returns-in_err-cmd-clause-makes : goal.returns-in_err-cmd-clause-makes
returns-in_err-cmd-clause-makes g c = λ limit t l ok whole.
    let known = g.D.Disk.state in
    let same : ◌≡◌ {A = Result (Unit {0}) UpgradeRefusal} (Err c.in_err-cmd.field-0.0) c.from_residual.result = search rules in
    subst (λ (r : Result (Unit {0}) UpgradeRefusal). MakesOn g.D.Disk.tells (all_paths t) (state_of known (blocks_in c.args.new.now)) (state_of known (blocks_in c.loop-place.new)) r) same
    (lacks g.D.Disk.tells (all_paths t) (state_of known (blocks_in c.args.new.now)) (state_of known (blocks_in c.loop-place.new)) c.in_err-cmd.field-0.0 c.in_err-cmd.ensures.memory)
