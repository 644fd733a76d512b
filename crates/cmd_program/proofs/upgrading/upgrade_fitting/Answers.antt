-- What was made again is as the upgrade of the image says, and then the line of its answer was told.
use Rattle.std.proofs.Common.{Result, Err, refl, sym, ap, ◌∙◌, subst}
use Rattle.cmd_upgrade.specs.declared.refusal.UpgradeRefusal.{UpgradeRefusal}
use Rattle.cmd_program.specs.Upgrading.{EndsUpgrading}
use Rattle.cmd_program.specs.declared.status.Status.TheVariants.{Done, NoMemory}
use Rattle.cmd_program.proofs.Requests.{behind}
use Rattle.cmd_program.proofs.upgrading.upgrade_fitting.Goals as goal

pub returns-in-Ok-clause-upgrades : goal.returns-in-Ok-clause-upgrades
returns-in-Ok-clause-upgrades g c = λ left source. record {
  answer = c.upgrade.result;
  leaves = c.upgrade.ensures.leaves;
  room = c.upgrade.ensures.room;
  others = c.upgrade.ensures.others;
  comes = c.upgrade.ensures.comes;
  ends = subst (λ (a : Result (Unit {0}) UpgradeRefusal). EndsUpgrading a Done (g.K.Sink.taken c.args.out.now) (g.K.Sink.taken c.args.out.now)) (sym c.in-Ok.is) (refl, refl);
}

pub returns-in-Err-Fault-clause-upgrades : goal.returns-in-Err-Fault-clause-upgrades
returns-in-Err-Fault-clause-upgrades g c = λ left source. record {
  answer = c.upgrade.result;
  leaves = c.upgrade.ensures.leaves;
  room = c.upgrade.ensures.room;
  others = c.upgrade.ensures.others;
  comes = c.upgrade.ensures.comes;
  ends = subst (λ (a : Result (Unit {0}) UpgradeRefusal). EndsUpgrading a c.tell.result (g.K.Sink.taken c.args.out.now) (g.K.Sink.taken c.tell.new.out))
      (sym (c.in-Err-Fault.is ∙ ap Err c.in-Err-Fault.field-0-is)) (behind _ _ _ _ _ _ _ c.tell.ensures.told);
}

pub returns-in-Err-Damaged-clause-upgrades : goal.returns-in-Err-Damaged-clause-upgrades
returns-in-Err-Damaged-clause-upgrades g c = λ left source. record {
  answer = c.upgrade.result;
  leaves = c.upgrade.ensures.leaves;
  room = c.upgrade.ensures.room;
  others = c.upgrade.ensures.others;
  comes = c.upgrade.ensures.comes;
  ends = subst (λ (a : Result (Unit {0}) UpgradeRefusal). EndsUpgrading a c.tell-in-Err-Damaged.result (g.K.Sink.taken c.args.out.now) (g.K.Sink.taken c.tell-in-Err-Damaged.new.out))
      (sym (c.in-Err-Damaged.is ∙ ap Err c.in-Err-Damaged.field-0-is)) (behind _ _ _ _ _ _ _ c.tell-in-Err-Damaged.ensures.told);
}

pub returns-in-Err-Spent-clause-upgrades : goal.returns-in-Err-Spent-clause-upgrades
returns-in-Err-Spent-clause-upgrades g c = λ left source. record {
  answer = c.upgrade.result;
  leaves = c.upgrade.ensures.leaves;
  room = c.upgrade.ensures.room;
  others = c.upgrade.ensures.others;
  comes = c.upgrade.ensures.comes;
  ends = subst (λ (a : Result (Unit {0}) UpgradeRefusal). EndsUpgrading a c.tell-in-Err-Spent.result (g.K.Sink.taken c.args.out.now) (g.K.Sink.taken c.tell-in-Err-Spent.new.out))
      (sym (c.in-Err-Spent.is ∙ ap Err c.in-Err-Spent.field-0-is)) (behind _ _ _ _ _ _ _ c.tell-in-Err-Spent.ensures.told);
}

pub returns-in-Err-NoRoom-clause-upgrades : goal.returns-in-Err-NoRoom-clause-upgrades
returns-in-Err-NoRoom-clause-upgrades g c = λ left source. record {
  answer = c.upgrade.result;
  leaves = c.upgrade.ensures.leaves;
  room = c.upgrade.ensures.room;
  others = c.upgrade.ensures.others;
  comes = c.upgrade.ensures.comes;
  ends = subst (λ (a : Result (Unit {0}) UpgradeRefusal). EndsUpgrading a c.tell-in-Err-NoRoom.result (g.K.Sink.taken c.args.out.now) (g.K.Sink.taken c.tell-in-Err-NoRoom.new.out))
      (sym (c.in-Err-NoRoom.is ∙ ap Err c.in-Err-NoRoom.field-0-is)) (behind _ _ _ _ _ _ _ c.tell-in-Err-NoRoom.ensures.told);
}

pub returns-in-Err-NoMemory-clause-upgrades : goal.returns-in-Err-NoMemory-clause-upgrades
returns-in-Err-NoMemory-clause-upgrades g c = λ left source. record {
  answer = c.upgrade.result;
  leaves = c.upgrade.ensures.leaves;
  room = c.upgrade.ensures.room;
  others = c.upgrade.ensures.others;
  comes = c.upgrade.ensures.comes;
  ends = subst (λ (a : Result (Unit {0}) UpgradeRefusal). EndsUpgrading a NoMemory (g.K.Sink.taken c.args.out.now) (g.K.Sink.taken c.args.out.now))
      (sym (c.in-Err-NoMemory.is ∙ ap Err c.in-Err-NoMemory.field-0-is)) (refl, refl);
}
