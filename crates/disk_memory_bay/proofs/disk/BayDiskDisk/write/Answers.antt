use Rattle.std.proofs.Common.{◌<◌, length, rules}
use Rattle.disk_memory_bay.proofs.LeftLaws.{disk_lost, disk_wrote}
use Rattle.disk_memory_bay.proofs.disk.BayDiskDisk.write.Goals as goal

pub invariant_of-self : goal.invariant_of-self
invariant_of-self c = disk_lost c.self.inside.disk c.write.new.self c.self.inside.contents.items c.write.ensures.base c.args.b c.args.from.now c.in_err-ticket.field-0 c.in_err-ticket.ensures.log c.self.invariant

pub invariant_of-self-2 : goal.invariant_of-self-2
invariant_of-self-2 c =
    let there : c.args.b < length c.self.inside.disk.base = search rules in
    disk_wrote c.self.inside.disk c.write.new.self c.self.inside.contents.items c.write.ensures.base c.args.b c.in_ok-ticket.ticket c.args.from.now there c.in_ok-ticket.ensures.log.2 c.self.invariant
