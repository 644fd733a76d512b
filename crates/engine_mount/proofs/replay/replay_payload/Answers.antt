use Rattle.std.proofs.Common.{List, length, sym, ◌∙◌, subst}
use Rattle.disk_contract.specs.declared.event.Event.{Event}
use Rattle.disk_contract.specs.Crash.{Window}
use Rattle.crash_argument.specs.Ledger.{HoldsUnder}
use Rattle.crash_argument.specs.Replay.{found_map}
use Rattle.engine_mount.proofs.Replays.{stays_same, replayed_still}
use Rattle.engine_mount.proofs.replay.replay_payload.Goals as goal

pub returns-in-Err-clause-holds : goal.returns-in-Err-clause-holds
returns-in-Err-clause-holds g c = λ tells at slot old_slot closed found r.
    let s = g.D.Disk.state c.args.disk.now in
    let h = c.args.run.now.header in
    let rs = c.args.run.now.records in
    subst (λ (lg : List Event). Window h.geom.n s.base lg (length s.log) (λ img. HoldsUnder h.geom.n h.geom img (found_map at h rs))) (sym (c.payload_of.ensures.log tells))
    (c.windows_go_on.ensures.begins (h.geom, found_map at h rs) h.geom.n s.base s.log (λ img honest. c.a_replay_holds_what_was_found.ensures.replaying h.geom.n s.base s.log img at slot old_slot h closed rs honest found r.replaying))

pub returns-in-Ok-None-clause-holds : goal.returns-in-Ok-None-clause-holds
returns-in-Ok-None-clause-holds g c = λ tells at slot old_slot closed found r.
    let s = g.D.Disk.state c.args.disk.now in
    let h = c.args.run.now.header in
    let rs = c.args.run.now.records in
    subst (λ (lg : List Event). Window h.geom.n s.base lg (length s.log) (λ img. HoldsUnder h.geom.n h.geom img (found_map at h rs))) (sym (c.payload_of.ensures.log tells))
    (c.windows_go_on.ensures.begins (h.geom, found_map at h rs) h.geom.n s.base s.log (λ img honest. c.a_replay_holds_what_was_found.ensures.replaying h.geom.n s.base s.log img at slot old_slot h closed rs honest found r.replaying))

pub returns-in-Ok-Some-clause-holds : goal.returns-in-Ok-Some-clause-holds
returns-in-Ok-Some-clause-holds g c = λ tells at slot old_slot closed found r.
    let old = g.D.Disk.state c.args.disk.now in
    let mid = g.D.Disk.state c.payload_of.new.disk in
    let h = c.args.run.now.header in
    let rs = c.args.run.now.records in
    let base = c.payload_of.ensures.spends.same.base in
    let log = c.payload_of.ensures.log tells in
    let covered = sym (c.in-Ok-Some.ensures.value tells at (λ place. r.replaying.ring place)) ∙ c.in-Ok-Some.field-0-is in
    stays_same h rs at old mid (g.D.Disk.state c.write_payload.new.disk) base log
    (c.write_payload.ensures.goes_on tells h.geom.n at slot old_slot h closed rs _ found c.requires.behind covered (replayed_still h.geom.n at slot h closed rs old mid base log r.replaying))
