use Rattle.std.proofs.Common.{refl}
use Rattle.engine_blocks.specs.PlainOf.{state_of}
use Rattle.fs_session.specs.Memory.{LieInMemory}
use Rattle.fs_session.proofs.memory.commands_in_memory_are_answered_in_their_room.Goals as goal

-- blocks in memory lie there: no call of theirs fails, and nothing waits
plain_lie : LieInMemory state_of
plain_lie = record { read_faults = λ s. refl; faults = λ s. refl; waiting = λ s. refl; going = λ s. refl; unspent = λ s. refl }

pub returns : goal.returns
returns c = λ old new f cmd reply h applies. c.a_command_is_answered_in_its_room.ensures refl plain_lie old new f cmd reply h applies
