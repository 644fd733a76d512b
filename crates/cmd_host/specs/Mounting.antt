-- What comes of the mount of a disk that was just formatted. The contract of `begin` speaks of it, and private ones.
use Rattle.disk_memory.specs.MemDisk.{state_of as disk_state}
use Rattle.engine_store.specs.StoreOf.{state_of}
use Rattle.fs_commands.specs.Opened.{blocks_in}
use Rattle.cmd_host.specs.Disks.{IsOpened, FailedToMount}
use Rattle.cmd_host.specs.Behaving.{Setting}
use Rattle.cmd_host.specs.declared.mounting.Mounted.{Mounted}
use Rattle.cmd_host.specs.declared.mounting.Mounted.TheVariants.{Opened, Failed}

-- The file system was opened, and the root alone stands in it; or a call of the disk failed.
abbrev pub Mounts : Setting → Mounted → Type 0
Mounts set (Opened system) = IsOpened set (state_of disk_state (blocks_in system))
Mounts set (Failed disk) = FailedToMount set (disk_state disk)
