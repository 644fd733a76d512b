use Rattle.std.proofs.Common.{◌∙◌, arith}
use Rattle.fs_dirs.proofs.reading.BlockSlots.{lies_within, slot_at_place, mid_is}
use Rattle.fs_dirs.proofs.block.slot_in.Goals as goal

pub overflow_add-end : goal.overflow_add-end
overflow_add-end c = omega (arith, c.slot_place-at.ensures, c.slot_length.ensures, lies_within c.args.layout c.args.place c.requires)

pub slice_bounds-slot_of_bytes-end : goal.slice_bounds-slot_of_bytes-end
slice_bounds-slot_of_bytes-end c = omega (arith, c.slot_place-at.ensures, c.slot_length.ensures, c.told-block, lies_within c.args.layout c.args.place c.requires)

pub returns-clause-slot : goal.returns-clause-slot
returns-clause-slot c = λ slots low reads.
    c.slot_of_bytes.ensures.slot ∙ slot_at_place c.args.layout c.args.block.now _ c.args.place slots low reads (mid_is c.args.layout c.args.place c.slot_place-at.result c.slot_length.result c.args.block.now c.slot_place-at.ensures c.slot_length.ensures)
