-- The disk in memory on which an image is mounted, and what is said of the map of blocks that is read there. Only private contracts speak of it.
use Rattle.std.specs.Prelude.{ℕ, ◌+◌, ⊤, List, length}
use Rattle.base_types.specs.Seal.{Blocks}
use Rattle.disk_memory.specs.MemDisk.{MemDiskState, begun}
use Rattle.layout_geometry.specs.Geometry.{Geometry}
use Rattle.fs_check.specs.Whole.{IsDamaged}
use Rattle.cmd_session.specs.declared.images.ImageDamage.TheVariants.{NoHeader, BadBit, Broken}
use Rattle.cmd_replay.specs.declared.refusal.ReplayRefusal.{ReplayRefusal}
use Rattle.cmd_replay.specs.declared.refusal.ReplayRefusal.TheVariants.{Choice, Damaged, Spent, NoMemory}

-- a disk that begins with this image, none of whose calls is listed to fail, and which has room for one write more than a mount makes at most
abbrev pub resting_disk : List (List ℕ) → MemDiskState
resting_disk image = begun image (length image + 3)

-- what a refusal says of a map of blocks: something is broken in it; nothing else but want of memory comes
abbrev pub RefusesMap : Geometry → Blocks → ReplayRefusal → Type 0
RefusesMap g m Choice = ⊥
RefusesMap g m (Damaged NoHeader) = ⊥
RefusesMap g m (Damaged (BadBit b)) = ⊥
RefusesMap g m (Damaged (Broken what)) = IsDamaged g m what
RefusesMap g m Spent = ⊥
RefusesMap g m NoMemory = ⊤
