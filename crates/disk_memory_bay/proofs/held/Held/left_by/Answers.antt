use Rattle.disk_memory_bay.proofs.LeftLaws.{left_sound}
use Rattle.disk_memory_bay.proofs.held.Held.left_by.Goals as goal

pub invariant_of-result : goal.invariant_of-result
invariant_of-result c =
    let parts = c.into_parts-disk in
    left_sound c.args.disk parts.result.0 parts.result.1.items c.args.marks.items parts.ensures.disk parts.ensures.sound parts.ensures.left parts.ensures.short
