use Rattle.std.proofs.Common.{rules, ℕ, ◌-◌, ◌<◌, ◌≤◌, sym, ◌∙◌, ap, subst, arith}
use Rattle.layout_geometry.specs.Geometry.{bitmap_start}
use Rattle.layout_journal.specs.declared.header.Header.{Header}
use Rattle.crash_argument.specs.Replay.{found_map}
use Rattle.engine_mount.specs.Mount.{MountSpends}
use Rattle.engine_mount.specs.Refusal.{is_unread, is_faulty}
use Rattle.engine_mount.proofs.States.{spends_on, spends_less}
use Rattle.engine_mount.proofs.Replays.{IsOnItsWay, way_begins, way_on, way_keeps, grows_on, shrink}
use Rattle.engine_mount.proofs.replay.replay_run.Goals as goal

pub loop-b-init : goal.loop-b-init
loop-b-init g c =
    let s = g.D.Disk.state c.args.disk.now in
    let h = c.args.run.now.header in
    let rs = c.args.run.now.records in
    subst (λ (b : ℕ). IsOnItsWay g.D.Disk.tells h rs s s b) (sym (c.bitmap_start-b.ensures ∙ ap (λ (k : Header). bitmap_start k.geom) c.header.ensures))
    (way_begins g.D.Disk.tells h rs s (λ tells at slot old_slot closed found r.
    c.windows_go_on.ensures.begins (h.geom, found_map at h rs) h.geom.n s.base s.log (λ img honest. c.a_replay_holds_what_was_found.ensures.replaying h.geom.n s.base s.log img at slot old_slot h closed rs honest found r.replaying)))

pub replay_payload-requires-clause-size : goal.replay_payload-requires-clause-size
replay_payload-requires-clause-size g c = c.loop-b.invariant.spends.same.blocks ∙ c.requires

pub returns-in_err-replay_payload-clause-holds : goal.returns-in_err-replay_payload-clause-holds
returns-in_err-replay_payload-clause-holds g c = way_keeps c.windows_go_on.ensures.joins g.D.Disk.tells c.args.run.now.header c.args.run.now.records (g.D.Disk.state c.args.disk.now) (g.D.Disk.state c.loop-b.disk) (g.D.Disk.state c.replay_payload.new.disk) c.loop-b.b c.loop-b.invariant c.replay_payload.ensures.grows c.replay_payload.ensures.holds

pub returns-in_err-replay_payload-clause-grows : goal.returns-in_err-replay_payload-clause-grows
returns-in_err-replay_payload-clause-grows g c = λ tells. grows_on _ _ _ (c.loop-b.invariant.grows tells) (c.replay_payload.ensures.grows tells)

pub returns-in_err-replay_payload-clause-spends : goal.returns-in_err-replay_payload-clause-spends
returns-in_err-replay_payload-clause-spends g c =
    let step : MountSpends (is_unread c.from_residual.result) (is_faulty c.from_residual.result) 1 (g.D.Disk.state c.loop-b.disk) (g.D.Disk.state c.replay_payload.new.disk) = search rules in
    let within : c.loop-b.b < c.args.run.now.header.geom.n = subst (λ (k : Header). c.loop-b.b < k.geom.n) c.header.ensures (omega (arith, c.loop-b-test.true, c.n-b-end.ensures)) in
    spends_on _ _ (c.loop-b.b - bitmap_start c.args.run.now.header.geom) 1 _ _ _ _ (omega (arith, within, c.loop-b.invariant.low)) c.loop-b.invariant.spends step

pub loop-b-preserved : goal.loop-b-preserved
loop-b-preserved g c = way_on c.windows_go_on.ensures.joins g.D.Disk.tells c.args.run.now.header c.args.run.now.records (g.D.Disk.state c.args.disk.now) (g.D.Disk.state c.loop-b.disk) (g.D.Disk.state c.replay_payload.new.disk) c.loop-b.b c.loop-b.invariant c.in_ok-replay_payload.ensures.spends c.replay_payload.ensures.grows c.replay_payload.ensures.written c.in_ok-replay_payload.ensures.next c.replay_payload.ensures.holds

pub returns-clause-replayed : goal.returns-clause-replayed
returns-clause-replayed g c = λ tells at slot old_slot closed found r.
    let end : c.args.run.now.header.geom.n ≤ c.loop-b.b = subst (λ (k : Header). k.geom.n ≤ c.loop-b.b) c.header.ensures (omega (arith, c.loop-b-test.false, c.n-b-end.ensures)) in
    shrink c.args.run.now.header.geom.n _ at slot c.loop-b.b c.args.run.now.header.geom.n c.args.run.now.header closed c.args.run.now.records end (c.loop-b.invariant.steps tells at slot old_slot closed found r)

pub returns-clause-holds : goal.returns-clause-holds
returns-clause-holds g c = c.loop-b.invariant.keeps

pub returns-clause-grows : goal.returns-clause-grows
returns-clause-grows g c = c.loop-b.invariant.grows

pub returns-clause-spends : goal.returns-clause-spends
returns-clause-spends g c =
    let upto : c.loop-b.b ≤ c.header.result.now.geom.n = omega (arith, c.loop-b.auto.b-end, c.n-b-end.ensures, c.bitmap_start-b.ensures, c.lawful.ensures.limits.data_room) in
    spends_less _ _ _ _ _ _ (subst (λ (k : Header). c.loop-b.b - bitmap_start c.args.run.now.header.geom ≤ k.geom.n) c.header.ensures (omega (arith, upto))) c.loop-b.invariant.spends

pub returns-in_err-replay_payload-clause-written : goal.returns-in_err-replay_payload-clause-written
returns-in_err-replay_payload-clause-written g c = λ tells.
    let within : c.loop-b.b < c.args.run.now.header.geom.n = subst (λ (k : Header). c.loop-b.b < k.geom.n) c.header.ensures (omega (arith, c.loop-b-test.true, c.n-b-end.ensures)) in
    omega (arith, within, c.loop-b.invariant.low, c.loop-b.invariant.written tells, c.replay_payload.ensures.written tells)

pub returns-clause-written : goal.returns-clause-written
returns-clause-written g c = λ tells.
    let upto : c.loop-b.b ≤ c.header.result.now.geom.n = omega (arith, c.loop-b.auto.b-end, c.n-b-end.ensures, c.bitmap_start-b.ensures, c.lawful.ensures.limits.data_room) in
    let low : c.loop-b.b ≤ c.args.run.now.header.geom.n = subst (λ (k : Header). c.loop-b.b ≤ k.geom.n) c.header.ensures upto in
    omega (arith, low, c.loop-b.invariant.written tells)
