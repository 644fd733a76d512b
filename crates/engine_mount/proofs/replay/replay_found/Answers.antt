use Rattle.std.proofs.Common.{rules, ◌∙◌, arith}
use Rattle.engine_mount.specs.Mount.{MountSpends, settled_on}
use Rattle.engine_mount.specs.Refusal.{is_unread, is_faulty}
use Rattle.engine_mount.proofs.States.{spends_on}
use Rattle.engine_mount.proofs.Replays.{stays_on, grows_on}
use Rattle.engine_mount.proofs.replay.replay_found.Goals as goal

pub replay_run-requires : goal.replay_run-requires
replay_run-requires g c = c.close_run.ensures.spends.same.blocks ∙ c.requires.size

pub returns-in_err-replay_run-clause-holds : goal.returns-in_err-replay_run-clause-holds
returns-in_err-replay_run-clause-holds g c = λ tells idle found.
    stays_on c.windows_go_on.ensures.joins c.args.run.now.header c.args.run.now.records (settled_on (g.D.Disk.state c.args.disk.now)) (g.D.Disk.state c.args.disk.now) (g.D.Disk.state c.close_run.new.disk) (g.D.Disk.state c.replay_run.new.disk) c.close_run.ensures.spends.same.base (c.close_run.ensures.grows tells) (c.replay_run.ensures.grows tells)
    (c.close_run.ensures.holds tells idle found)
    (c.replay_run.ensures.holds tells (settled_on (g.D.Disk.state c.args.disk.now)) c.in_ok-closed.closed.slot c.args.run.now.slot c.in_ok-closed.closed.header found (c.in_ok-closed.ensures.closed tells idle found))

pub returns-in_err-replay_run-clause-grows : goal.returns-in_err-replay_run-clause-grows
returns-in_err-replay_run-clause-grows g c = λ tells. grows_on _ _ _ (c.close_run.ensures.grows tells) (c.replay_run.ensures.grows tells)

pub returns-in_err-replay_run-clause-spends : goal.returns-in_err-replay_run-clause-spends
returns-in_err-replay_run-clause-spends g c =
    let step : MountSpends (is_unread c.from_residual-in_err-replay_run.result) (is_faulty c.from_residual-in_err-replay_run.result) c.args.run.now.header.geom.n (g.D.Disk.state c.close_run.new.disk) (g.D.Disk.state c.replay_run.new.disk) = search rules in
    spends_on _ _ 1 c.args.run.now.header.geom.n _ _ _ _ (omega arith) c.in_ok-closed.ensures.spends step

pub returns-clause-replayed : goal.returns-clause-replayed
returns-clause-replayed g c = λ tells idle found.
    c.in_ok-replay_run.ensures.replayed tells (settled_on (g.D.Disk.state c.args.disk.now)) c.in_ok-closed.closed.slot c.args.run.now.slot c.in_ok-closed.closed.header found (c.in_ok-closed.ensures.closed tells idle found)

pub returns-clause-holds : goal.returns-clause-holds
returns-clause-holds g c = λ tells idle found.
    stays_on c.windows_go_on.ensures.joins c.args.run.now.header c.args.run.now.records (settled_on (g.D.Disk.state c.args.disk.now)) (g.D.Disk.state c.args.disk.now) (g.D.Disk.state c.close_run.new.disk) (g.D.Disk.state c.replay_run.new.disk) c.close_run.ensures.spends.same.base (c.close_run.ensures.grows tells) (c.replay_run.ensures.grows tells)
    (c.close_run.ensures.holds tells idle found)
    (c.replay_run.ensures.holds tells (settled_on (g.D.Disk.state c.args.disk.now)) c.in_ok-closed.closed.slot c.args.run.now.slot c.in_ok-closed.closed.header found (c.in_ok-closed.ensures.closed tells idle found))

pub returns-clause-grows : goal.returns-clause-grows
returns-clause-grows g c = λ tells. grows_on _ _ _ (c.close_run.ensures.grows tells) (c.replay_run.ensures.grows tells)

pub returns-clause-spends : goal.returns-clause-spends
returns-clause-spends g c = spends_on _ _ 1 c.args.run.now.header.geom.n _ _ _ _ (omega arith) c.in_ok-closed.ensures.spends c.in_ok-replay_run.ensures.spends
