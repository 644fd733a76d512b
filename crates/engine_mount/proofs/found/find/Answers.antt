use Rattle.std.proofs.Common.{rules, sym}
use Rattle.engine_mount.specs.Mount.{RefusalSays}
use Rattle.engine_mount.proofs.Founds.{refused_before}
use Rattle.engine_mount.proofs.States.{same_idle}
use Rattle.engine_mount.proofs.Opens.{found_still, greatest_there}
use Rattle.engine_mount.proofs.found.find.Goals as goal

pub returns-in_err-epoch-clause-refused : goal.returns-in_err-epoch-clause-refused
returns-in_err-epoch-clause-refused g c = λ tells idle.
    let here = c.in_err-epoch.ensures.refused tells (same_idle (g.D.Disk.state c.args.disk.now) (g.D.Disk.state c.run_on.new.disk) c.run_on.ensures.reads.only.same.base (c.run_on.ensures.reads.log tells) idle) (found_still (g.D.Disk.state c.args.disk.now) (g.D.Disk.state c.run_on.new.disk) c.in_ok-run.run' c.run_on.ensures.reads.only.same.blocks c.run_on.ensures.reads.only.same.base (c.run_on.ensures.reads.log tells) (c.in_ok-run.ensures.found tells idle)) in
    let says : RefusalSays (g.D.Disk.state c.args.disk.now) (g.D.Disk.state c.epoch_on.new.disk) c.in_err-epoch.field-0.0 = refused_before (g.D.Disk.state c.args.disk.now) (g.D.Disk.state c.run_on.new.disk) (g.D.Disk.state c.epoch_on.new.disk) _ c.run_on.ensures.reads.only.same.blocks c.run_on.ensures.reads.only.same.base (c.run_on.ensures.reads.log tells) here in
    search (rules, says)

pub returns-clause-found : goal.returns-clause-found
returns-clause-found g c = λ tells idle.
    let old = g.D.Disk.state c.args.disk.now in
    let mid = g.D.Disk.state c.run_on.new.disk in
    let base = c.run_on.ensures.reads.only.same.base in
    let log = c.run_on.ensures.reads.log tells in
    record {
      is_found = c.in_ok-run.ensures.found tells idle;
      is_greatest = greatest_there mid old c.in_ok-run.run'.header.geom c.in_ok-epoch.epoch (sym base) (sym log) (c.in_ok-epoch.ensures.value tells (same_idle old mid base log idle));
    }
