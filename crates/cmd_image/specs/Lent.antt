-- What a disk that a bay handed out shows of itself.
use Rattle.cmd_image.specs.declared.lent.LentDisk.{LentDisk}

-- the bay's disk
abbrev pub disk_of : {B D : Type 0} → LentDisk B D → D
disk_of lent = lent.disk
