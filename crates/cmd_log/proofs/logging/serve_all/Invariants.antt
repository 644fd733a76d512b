-- The calls that the reader has given were answered. Each is one of at most 2^30 + 1 that an input has.
use Rattle.std.proofs.Common.{◌≡◌, ◌+◌, ◌-◌, ◌^◌, length}
use Rattle.fs_commands.specs.Opened.{blocks_in}
use Rattle.engine_store.specs.StoreOf.{state_of}
use Rattle.cmd_log.proofs.Reading.{IsServing}
use Rattle.cmd_log.proofs.logging.serve_all.Given as goal

abbrev pub invariant-loop-reader : goal.invariant-loop-reader
invariant-loop-reader g l =
    (l.running.logged.most ≡ 1048576)
    × IsServing g.D.Disk.tells l.fn.running.marks.items (state_of g.D.Disk.state (blocks_in l.fn.running.logged.fs)) l.running.marks.items (state_of g.D.Disk.state (blocks_in l.running.logged.fs)) l.reader
    (record { left = g.S.Source.remaining l.fn.input; source_faults = g.S.Source.faults l.fn.input; taken = g.K.Sink.taken l.fn.out; sink_faults = g.K.Sink.faults l.fn.out })
    (record { left = g.S.Source.remaining l.input; source_faults = g.S.Source.faults l.input; taken = g.K.Sink.taken l.out; sink_faults = g.K.Sink.faults l.out })

abbrev pub decreases-loop-reader : goal.decreases-loop-reader
decreases-loop-reader g l = (length l.fn.running.marks.items + 2 ^ 30 + 2) - length l.running.marks.items
