use Rattle.std.proofs.Common.{true}
use Rattle.disk_memory.specs.MemDisk.{state_of as disk_state}
use Rattle.engine_store.specs.StoreOf.{state_of}
use Rattle.fs_commands.specs.Opened.{IsReady, blocks_in}
use Rattle.fs_session.specs.Sessions.{Stands}
use Rattle.cmd_load.proofs.Loads.{ServesTo}
use Rattle.cmd_load.proofs.serving.serve.Given as goal

abbrev pub invariant-loop : goal.invariant-loop
invariant-loop l =
    ServesTo l.seed l.count l.counter l.load l.refused (state_of disk_state (blocks_in l.fs))
    × IsReady true (λ s. state_of disk_state s) l.fs
    × Stands (state_of disk_state (blocks_in l.fs))
