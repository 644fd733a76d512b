use Rattle.disk_memory_bay.proofs.LeftLaws.{disk_wait}
use Rattle.disk_memory_bay.proofs.disk.BayDiskDisk.wait.Goals as goal

pub invariant_of-self-2 : goal.invariant_of-self-2
invariant_of-self-2 c = disk_wait c.self.inside.disk c.wait.new.self c.self.inside.contents.items c.wait.ensures.base c.wait.ensures.log c.self.invariant
