use Rattle.disk_memory_bay.proofs.LeftLaws.{disk_poll}
use Rattle.disk_memory_bay.proofs.disk.BayDiskDisk.poll.Goals as goal

pub invariant_of-self-2 : goal.invariant_of-self-2
invariant_of-self-2 c = disk_poll c.self.inside.disk c.poll.new.self c.self.inside.contents.items c.poll.ensures.base c.poll.result c.poll.ensures.log c.self.invariant
