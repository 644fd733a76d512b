-- Each turn has brought a command, which was answered.
use Rattle.disk_memory.specs.MemDisk.{state_of as disk_state}
use Rattle.engine_store.specs.StoreOf.{state_of}
use Rattle.fs_commands.specs.Opened.{blocks_in}
use Rattle.cmd_record.proofs.ReadingLemmas.{IsServing}
use Rattle.cmd_record.proofs.reading.read_lines.Given as goal

abbrev pub invariant-loop : goal.invariant-loop
invariant-loop g l =
    IsServing l.counter (g.S.Source.faults l.fn.input) (g.S.Source.faults l.input) (g.K.Sink.faults l.fn.out) (g.K.Sink.faults l.out)
    (g.S.Source.remaining l.fn.input) (g.S.Source.remaining l.input) (g.K.Sink.taken l.fn.out) (g.K.Sink.taken l.out)
    (state_of disk_state (blocks_in l.fn.system)) (state_of disk_state (blocks_in l.system)) l.reader
