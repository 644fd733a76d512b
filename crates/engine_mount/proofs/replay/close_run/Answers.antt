use Rattle.crash_argument.specs.Replay.{found_map}
use Rattle.engine_mount.specs.Mount.{settled_on}
use Rattle.engine_mount.proofs.Founds.{found_holds, last_same, window_of}
use Rattle.engine_mount.proofs.Writes.{writes_once}
use Rattle.engine_mount.proofs.replay.close_run.Goals as goal

pub returns-then-closes-clause-holds : goal.returns-then-closes-clause-holds
returns-then-closes-clause-holds g c = λ tells idle found.
    let s = g.D.Disk.state c.args.disk.now in
    let h = c.args.run.now.header in
    let m = found_map (settled_on s) h c.args.run.now.records in
    c.windows_go_on.ensures.begins (h.geom, m) h.geom.n s.base s.log (λ img honest. c.an_idle_disk_holds_what_is_settled.ensures h.geom.n s.base s.log h.geom m img idle (found_holds (settled_on s) c.args.run.now.slot h c.args.run.now.records found) honest)

pub returns-in-Err-clause-holds : goal.returns-in-Err-clause-holds
returns-in-Err-clause-holds g c = λ tells idle found.
    let first = (c.journal_blocks_keep_to_their_bounds.ensures.headers _ _ c.args.run.now.header found.newest.stands).first in
    window_of c.header-newest.result.now c.args.run.now.header c.slot-2.result c.args.run.now.slot _ c.args.run.now.records _ _ _ _ c.header-newest.ensures c.slot-2.ensures (λ f l. c.in-Err.ensures.holds tells c.args.run.now.records idle f l) found (last_same c.args.run.now.header c.args.run.now.records _ first c.last-2.ensures)

pub returns-in-Ok-clause-holds : goal.returns-in-Ok-clause-holds
returns-in-Ok-clause-holds g c = λ tells idle found.
    let first = (c.journal_blocks_keep_to_their_bounds.ensures.headers _ _ c.args.run.now.header found.newest.stands).first in
    window_of c.header-newest.result.now c.args.run.now.header c.slot-2.result c.args.run.now.slot _ c.args.run.now.records _ _ _ _ c.header-newest.ensures c.slot-2.ensures (λ f l. c.in-Ok.ensures.holds tells c.args.run.now.records idle f l) found (last_same c.args.run.now.header c.args.run.now.records _ first c.last-2.ensures)

pub returns-in-Err-clause-written : goal.returns-in-Err-clause-written
returns-in-Err-clause-written g c = λ tells. writes_once c.calls_add_at_most_one_write.ensures.write c.calls_add_at_most_one_write.ensures.wait _ _ c.close_journal.result _ _ (c.close_journal.ensures.log tells)

pub returns-in-Ok-clause-written : goal.returns-in-Ok-clause-written
returns-in-Ok-clause-written g c = λ tells. writes_once c.calls_add_at_most_one_write.ensures.write c.calls_add_at_most_one_write.ensures.wait _ _ c.close_journal.result _ _ (c.close_journal.ensures.log tells)
