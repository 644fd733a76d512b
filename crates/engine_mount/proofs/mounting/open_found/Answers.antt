use Rattle.std.proofs.Common.{rules, ℕ, ap, subst, ◌+◌, length, ◌∙◌, arith}
use Rattle.disk_contract.specs.Crash.{Window}
use Rattle.layout_geometry.specs.Geometry.{Geometry}
use Rattle.crash_argument.specs.Ledger.{HoldsUnder, cells_of}
use Rattle.crash_argument.specs.Replay.{found_map}
use Rattle.engine_mount.specs.Mount.{MountSpends, settled_on}
use Rattle.engine_mount.specs.Refusal.{is_unread, is_faulty}
use Rattle.engine_mount.proofs.States.{spends_on, anew_on}
use Rattle.engine_mount.proofs.Replays.{stays_on}
use Rattle.engine_mount.proofs.Opens.{none_above, begun_since, empty_holds, empty_opened, window_from, begun_as}
use Rattle.engine_mount.proofs.OnlyWrite.{stops_too, not_empty}
use Rattle.engine_mount.proofs.mounting.open_found.Goals as goal

pub returns-in_err-mounted-clause-holds : goal.returns-in_err-mounted-clause-holds
returns-in_err-mounted-clause-holds g c = λ tells idle found greatest.
    let none = none_above c.no_epoch_is_above_the_greatest.ensures.headers c.no_epoch_is_above_the_greatest.ensures.commits c.no_epoch_is_above_the_greatest.ensures.descriptors c.header.result.now c.args.run.now.header (settled_on (g.D.Disk.state c.args.disk.now)) c.args.epoch c.header.ensures c.lawful.ensures.limits.least_journal greatest in
    empty_holds c.header-then-is_empty.result.now c.args.run.now.header c.slot.result c.args.run.now.slot c.args.epoch c.args.run.now.records (g.D.Disk.state c.args.disk.now) (g.D.Disk.state c.open_after.new.disk).log c.header-then-is_empty.ensures c.slot.ensures (search rules) idle found none (c.open_after.ensures.holds tells)

pub returns-then-is_empty-clause-holds : goal.returns-then-is_empty-clause-holds
returns-then-is_empty-clause-holds g c = λ tells idle found greatest.
    let none = none_above c.no_epoch_is_above_the_greatest.ensures.headers c.no_epoch_is_above_the_greatest.ensures.commits c.no_epoch_is_above_the_greatest.ensures.descriptors c.header.result.now c.args.run.now.header (settled_on (g.D.Disk.state c.args.disk.now)) c.args.epoch c.header.ensures c.lawful.ensures.limits.least_journal greatest in
    empty_holds c.header-then-is_empty.result.now c.args.run.now.header c.slot.result c.args.run.now.slot c.args.epoch c.args.run.now.records (g.D.Disk.state c.args.disk.now) (g.D.Disk.state c.open_after.new.disk).log c.header-then-is_empty.ensures c.slot.ensures (search rules) idle found none (c.open_after.ensures.holds tells)

pub returns-then-is_empty-clause-begins : goal.returns-then-is_empty-clause-begins
returns-then-is_empty-clause-begins g c = λ tells idle found greatest.
    let none = none_above c.no_epoch_is_above_the_greatest.ensures.headers c.no_epoch_is_above_the_greatest.ensures.commits c.no_epoch_is_above_the_greatest.ensures.descriptors c.header.result.now c.args.run.now.header (settled_on (g.D.Disk.state c.args.disk.now)) c.args.epoch c.header.ensures c.lawful.ensures.limits.least_journal greatest in
    let w = returns-then-is_empty-clause-holds g c tells idle found greatest in
    let m = found_map (settled_on (g.D.Disk.state c.args.disk.now)) c.args.run.now.header c.args.run.now.records in
    begun_since c.a_window_reaches_back.ensures (g.D.Disk.state c.open_after.new.disk) c.args.run.now.header.geom c.in_ok-mounted.mounted.slot c.in_ok-mounted.mounted.header (length (g.D.Disk.state c.open_after.new.disk).log) (length (g.D.Disk.state c.args.disk.now).log) m
    (empty_opened c.header-then-is_empty.result.now c.args.run.now.header c.in_ok-mounted.mounted.header c.slot.result c.args.run.now.slot c.in_ok-mounted.mounted.slot c.args.epoch c.args.run.now.records (g.D.Disk.state c.args.disk.now) (g.D.Disk.state c.open_after.new.disk) c.header-then-is_empty.ensures c.slot.ensures (search rules) idle found none (c.in_ok-mounted.ensures.opened tells))
    (window_from c.args.run.now.header.geom.n (g.D.Disk.state c.args.disk.now).base (g.D.Disk.state c.open_after.new.disk).base (g.D.Disk.state c.open_after.new.disk).log (length (g.D.Disk.state c.args.disk.now).log) c.args.run.now.header.geom m c.open_after.ensures.spends.same.base w)

pub returns-in_err-opened-clause-holds : goal.returns-in_err-opened-clause-holds
returns-in_err-opened-clause-holds g c = λ tells idle found greatest.
    let none = none_above c.no_epoch_is_above_the_greatest.ensures.headers c.no_epoch_is_above_the_greatest.ensures.commits c.no_epoch_is_above_the_greatest.ensures.descriptors c.header.result.now c.args.run.now.header (settled_on (g.D.Disk.state c.args.disk.now)) c.args.epoch c.header.ensures c.lawful.ensures.limits.least_journal greatest in
    let at = settled_on (g.D.Disk.state c.args.disk.now) in
    let mid = g.D.Disk.state c.replay_found.new.disk in
    let new = g.D.Disk.state c.open_after-2.new.disk in
    let h = c.args.run.now.header in
    let rs = c.args.run.now.records in
    let q = c.in_ok-closed.closed in
    let done = c.in_ok-closed.ensures.replayed tells idle found in
    let ready = c.a_replay_goes_block_by_block.ensures.opens h.geom.n (cells_of mid) at q.slot c.args.run.now.slot h.geom.n c.args.epoch h q.header rs found done none in
    let ended = c.a_replay_goes_block_by_block.ensures.ends h.geom.n (cells_of mid) at q.slot c.args.run.now.slot h.geom.n h q.header rs found done (omega arith) in
    let shape = c.in_ok-closed.ensures.next.1 in
    let last = subst (λ (n : ℕ). Window n mid.base new.log (length mid.log) (λ img. HoldsUnder n h.geom img (found_map at h rs))) (ap (λ (k : Geometry). k.n) shape) (c.open_after-2.ensures.replayed tells at c.args.run.now.slot h rs ready (rw shape found) ended) in
    stays_on c.windows_go_on.ensures.joins h rs at (g.D.Disk.state c.args.disk.now) mid new c.replay_found.ensures.spends.same.base (c.replay_found.ensures.grows tells) (c.open_after-2.ensures.grows tells) (c.replay_found.ensures.holds tells idle found) last

pub returns-in_err-opened-clause-spends : goal.returns-in_err-opened-clause-spends
returns-in_err-opened-clause-spends g c =
    let step : MountSpends (is_unread c.from_residual-in_err-opened.result) (is_faulty c.from_residual-in_err-opened.result) 1 (g.D.Disk.state c.replay_found.new.disk) (g.D.Disk.state c.open_after-2.new.disk) = search rules in
    spends_on _ _ (c.args.run.now.header.geom.n + 1) 1 _ _ _ _ (omega arith) c.in_ok-closed.ensures.spends step

pub returns-clause-holds : goal.returns-clause-holds
returns-clause-holds g c = λ tells idle found greatest.
    let none = none_above c.no_epoch_is_above_the_greatest.ensures.headers c.no_epoch_is_above_the_greatest.ensures.commits c.no_epoch_is_above_the_greatest.ensures.descriptors c.header.result.now c.args.run.now.header (settled_on (g.D.Disk.state c.args.disk.now)) c.args.epoch c.header.ensures c.lawful.ensures.limits.least_journal greatest in
    let at = settled_on (g.D.Disk.state c.args.disk.now) in
    let mid = g.D.Disk.state c.replay_found.new.disk in
    let new = g.D.Disk.state c.open_after-2.new.disk in
    let h = c.args.run.now.header in
    let rs = c.args.run.now.records in
    let q = c.in_ok-closed.closed in
    let done = c.in_ok-closed.ensures.replayed tells idle found in
    let ready = c.a_replay_goes_block_by_block.ensures.opens h.geom.n (cells_of mid) at q.slot c.args.run.now.slot h.geom.n c.args.epoch h q.header rs found done none in
    let ended = c.a_replay_goes_block_by_block.ensures.ends h.geom.n (cells_of mid) at q.slot c.args.run.now.slot h.geom.n h q.header rs found done (omega arith) in
    let shape = c.in_ok-closed.ensures.next.1 in
    let last = subst (λ (n : ℕ). Window n mid.base new.log (length mid.log) (λ img. HoldsUnder n h.geom img (found_map at h rs))) (ap (λ (k : Geometry). k.n) shape) (c.open_after-2.ensures.replayed tells at c.args.run.now.slot h rs ready (rw shape found) ended) in
    stays_on c.windows_go_on.ensures.joins h rs at (g.D.Disk.state c.args.disk.now) mid new c.replay_found.ensures.spends.same.base (c.replay_found.ensures.grows tells) (c.open_after-2.ensures.grows tells) (c.replay_found.ensures.holds tells idle found) last

pub returns-clause-begins : goal.returns-clause-begins
returns-clause-begins g c = λ tells idle found greatest.
    let none = none_above c.no_epoch_is_above_the_greatest.ensures.headers c.no_epoch_is_above_the_greatest.ensures.commits c.no_epoch_is_above_the_greatest.ensures.descriptors c.header.result.now c.args.run.now.header (settled_on (g.D.Disk.state c.args.disk.now)) c.args.epoch c.header.ensures c.lawful.ensures.limits.least_journal greatest in
    let at = settled_on (g.D.Disk.state c.args.disk.now) in
    let mid = g.D.Disk.state c.replay_found.new.disk in
    let new = g.D.Disk.state c.open_after-2.new.disk in
    let h = c.args.run.now.header in
    let rs = c.args.run.now.records in
    let q = c.in_ok-closed.closed in
    let done = c.in_ok-closed.ensures.replayed tells idle found in
    let ready = c.a_replay_goes_block_by_block.ensures.opens h.geom.n (cells_of mid) at q.slot c.args.run.now.slot h.geom.n c.args.epoch h q.header rs found done none in
    let ended = c.a_replay_goes_block_by_block.ensures.ends h.geom.n (cells_of mid) at q.slot c.args.run.now.slot h.geom.n h q.header rs found done (omega arith) in
    let shape = c.in_ok-closed.ensures.next.1 in
    let all = returns-clause-holds g c tells idle found greatest in
    let m = found_map at h rs in
    begun_since c.a_window_reaches_back.ensures new h.geom c.in_ok-opened.opened.slot c.in_ok-opened.opened.header (length new.log) (length (g.D.Disk.state c.args.disk.now).log) m
    (begun_as new h.geom q.header.geom c.in_ok-opened.opened.slot c.in_ok-opened.opened.header (length new.log) m _ shape (c.a_replay_goes_block_by_block.ensures.leaves h.geom.n (cells_of mid) at c.args.run.now.slot h q.header rs found ended) (c.in_ok-opened.ensures.opened tells ready))
    (window_from h.geom.n (g.D.Disk.state c.args.disk.now).base new.base new.log (length (g.D.Disk.state c.args.disk.now).log) h.geom m (c.open_after-2.ensures.spends.same.base ∙ c.replay_found.ensures.spends.same.base) all)

pub returns-clause-spends : goal.returns-clause-spends
returns-clause-spends g c = spends_on _ _ (c.args.run.now.header.geom.n + 1) 1 _ _ _ _ (omega arith) c.in_ok-closed.ensures.spends c.in_ok-opened.ensures.spends

pub returns-clause-anew : goal.returns-clause-anew
returns-clause-anew g c = anew_on (c.args.run.now.header.geom.n + 1) c.in_ok-opened.opened.header (g.D.Disk.state c.args.disk.now) (g.D.Disk.state c.replay_found.new.disk) (g.D.Disk.state c.open_after-2.new.disk) c.in_ok-closed.ensures.spends c.in_ok-opened.ensures.anew

pub returns-in_err-mounted-clause-alone : goal.returns-in_err-mounted-clause-alone
returns-in_err-mounted-clause-alone g c = λ tells none. stops_too (g.D.Disk.state c.args.disk.now).manner c.from_residual.result _ _ c.from_residual.ensures.0 (c.in_err-mounted.ensures.alone tells)

pub returns-in_err-closed-clause-alone : goal.returns-in_err-closed-clause-alone
returns-in_err-closed-clause-alone g c = λ tells none. absurd (not_empty c.args.run.now.records (search rules) none)

pub returns-in_err-opened-clause-alone : goal.returns-in_err-opened-clause-alone
returns-in_err-opened-clause-alone g c = λ tells none. absurd (not_empty c.args.run.now.records (search rules) none)

pub returns-clause-alone : goal.returns-clause-alone
returns-clause-alone g c = λ tells none. absurd (not_empty c.args.run.now.records (search rules) none)
