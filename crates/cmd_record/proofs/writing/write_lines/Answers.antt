-- Before the first byte is read, the sink has a front of what the mount left.
use Rattle.std.proofs.Common.{◌++◌, List, ap, subst}
use Rattle.std.specs.Io.KnownBytes.{Appends}
use Rattle.disk_contract.specs.declared.event.Event.{Event}
use Rattle.disk_memory.specs.MemDisk.{state_of as disk_state}
use Rattle.engine_store.specs.StoreOf.{state_of}
use Rattle.fs_commands.specs.Opened.{blocks_in}
use Rattle.cmd_trace.specs.Line.{geometry_line, event_lines}
use Rattle.cmd_record.proofs.Runs.{at_first}
use Rattle.cmd_record.proofs.ReadingLemmas.{head_cuts, lines_halt}
use Rattle.cmd_record.proofs.writing.write_lines.Goals as goal

pub returns-in_err-write_head-clause-err : goal.returns-in_err-write_head-clause-err
returns-in_err-write_head-clause-err g c =
    let front = c.in_err-write_head.ensures.front in
    let s = state_of disk_state (blocks_in c.args.system.now) in
    head_cuts _ c.args.geom.now s (geometry_line c.args.geom.now ++ event_lines s.crash.log) _ _ _ _ front.0
    (λ m opened. at_first (record { shape = c.args.geom.now; manner = m }) s c.lawful.ensures.fits opened c.a_run_is_known.ensures.laws c.a_run_is_known.ensures.known c.a_run_is_known.ensures.begins)
    (ap (λ (es : List Event). geometry_line c.args.geom.now ++ event_lines es) c.disk_of.ensures) front.1

pub returns-in_err-ending-clause-err : goal.returns-in_err-ending-clause-err
returns-in_err-ending-clause-err g c =
    let s = state_of disk_state (blocks_in c.args.system.now) in
    lines_halt _ c.args.geom.now s _ _ _ _ (λ m opened.
    let first = at_first (record { shape = c.args.geom.now; manner = m }) s c.lawful.ensures.fits opened c.a_run_is_known.ensures.laws c.a_run_is_known.ensures.known c.a_run_is_known.ensures.begins in
    let told = subst (λ (es : List Event). Appends (g.K.Sink.taken c.args.out.now) (g.K.Sink.taken c.write_head.new.out) (geometry_line c.args.geom.now ++ event_lines es)) c.disk_of.ensures c.in_ok-write_head.ensures.all in
    c.in_err-ending.ensures.err (record { shape = c.args.geom.now; manner = m }) _ _ first told)

pub returns-clause-ok : goal.returns-clause-ok
returns-clause-ok g c = λ m opened.
    let s = state_of disk_state (blocks_in c.args.system.now) in
    let first = at_first (record { shape = c.args.geom.now; manner = m }) s c.lawful.ensures.fits opened c.a_run_is_known.ensures.laws c.a_run_is_known.ensures.known c.a_run_is_known.ensures.begins in
    let told = subst (λ (es : List Event). Appends (g.K.Sink.taken c.args.out.now) (g.K.Sink.taken c.write_head.new.out) (geometry_line c.args.geom.now ++ event_lines es)) c.disk_of.ensures c.in_ok-write_head.ensures.all in
    c.in_ok-ending.ensures.ok (record { shape = c.args.geom.now; manner = m }) _ _ first told
