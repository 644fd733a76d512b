use Rattle.std.proofs.Common.{◌∙◌, ap}
use Rattle.engine_recover.specs.Search.{FoundRun}
use Rattle.engine_mount.proofs.Opens.{window_on, begun_on}
use Rattle.engine_mount.proofs.OnlyWrite.{stops_too}
use Rattle.engine_mount.proofs.mounting.open.Goals as goal

pub returns-in_err-mounted-clause-holds : goal.returns-in_err-mounted-clause-holds
returns-in_err-mounted-clause-holds g c = λ tells idle is k m held.
    window_on c.an_image_holds_one_map.ensures.newest c.an_image_holds_one_map.ensures.runs (g.D.Disk.state c.args.disk.now) (g.D.Disk.state c.open_found.new.disk) c.args.found.now c.run.result.now c.epoch.result k m c.run.ensures.value c.epoch.ensures.value c.requires is held (c.open_found.ensures.holds tells idle)

pub returns-clause-begins : goal.returns-clause-begins
returns-clause-begins g c = λ tells idle is k m held.
    begun_on c.an_image_holds_one_map.ensures.newest c.an_image_holds_one_map.ensures.runs (g.D.Disk.state c.args.disk.now) (g.D.Disk.state c.open_found.new.disk) c.args.found.now c.run.result.now c.epoch.result k m c.in_ok-mounted.mounted.slot c.in_ok-mounted.mounted.header c.run.ensures.value c.epoch.ensures.value c.requires is held (c.in_ok-mounted.ensures.begins tells idle)

pub returns-clause-holds : goal.returns-clause-holds
returns-clause-holds g c = λ tells idle is k m held.
    window_on c.an_image_holds_one_map.ensures.newest c.an_image_holds_one_map.ensures.runs (g.D.Disk.state c.args.disk.now) (g.D.Disk.state c.open_found.new.disk) c.args.found.now c.run.result.now c.epoch.result k m c.run.ensures.value c.epoch.ensures.value c.requires is held (c.open_found.ensures.holds tells idle)

pub returns-in_err-mounted-clause-alone : goal.returns-in_err-mounted-clause-alone
returns-in_err-mounted-clause-alone g c = λ tells none. stops_too (g.D.Disk.state c.args.disk.now).manner c.from_residual.result _ _ c.from_residual.ensures.0 (c.in_err-mounted.ensures.alone tells (ap (λ (r : FoundRun). r.records) c.run.ensures.value ∙ none))

pub returns-clause-alone : goal.returns-clause-alone
returns-clause-alone g c = λ tells none. c.in_ok-mounted.ensures.alone tells (ap (λ (r : FoundRun). r.records) c.run.ensures.value ∙ none)
