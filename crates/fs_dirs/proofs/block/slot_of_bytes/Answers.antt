use Rattle.fs_dirs.proofs.reading.BlockSlots.{reads_spelled, reads_nothing}
use Rattle.fs_dirs.proofs.block.slot_of_bytes.Goals as goal

pub returns-in-Ok-clause-slot : goal.returns-in-Ok-clause-slot
returns-in-Ok-clause-slot c = reads_spelled c.args.layout (c.slots_read_back.ensures.reads c.args.layout) c.args.bytes.now c.in-Ok.slot c.in-Ok.ensures.found

pub returns-in-Err-clause-slot : goal.returns-in-Err-clause-slot
returns-in-Err-clause-slot c = reads_nothing c.args.layout (c.slots_read_back.ensures.spelled c.args.layout) c.args.bytes.now c.requires c.byte_ranges.ensures c.in-Err.ensures.refused
