-- Why a disk wasn't mounted, and which counts a refusal raises.
use Rattle.std.specs.Prelude.{⊤, Bool, true, false, Result, Ok, Err}
use Rattle.engine_recover.specs.declared.find.RecoverRefusal.{RecoverRefusal}
use Rattle.engine_recover.specs.declared.find.RecoverRefusal.TheVariants as search
use Rattle.engine_mount.specs.declared.refusal.MountRefusal.{MountRefusal}
use Rattle.engine_mount.specs.declared.refusal.MountRefusal.TheVariants.{NoHeader, Spent, ReadFault, DiskFault, NoMemory}

-- the refusal of a search, as one of a mount
abbrev pub refusal_of : RecoverRefusal → MountRefusal
refusal_of search.NoHeader = NoHeader
refusal_of search.Spent = Spent
refusal_of search.ReadFault = ReadFault
refusal_of search.NoMemory = NoMemory

-- a failed read stopped the mount
abbrev pub is_unread : {T : Type 0} → Result T MountRefusal → Bool
is_unread (Ok x) = false
is_unread (Err NoHeader) = false
is_unread (Err Spent) = false
is_unread (Err ReadFault) = true
is_unread (Err DiskFault) = false
is_unread (Err NoMemory) = false

-- a failed write or wait stopped it
abbrev pub is_faulty : {T : Type 0} → Result T MountRefusal → Bool
is_faulty (Ok x) = false
is_faulty (Err NoHeader) = false
is_faulty (Err Spent) = false
is_faulty (Err ReadFault) = false
is_faulty (Err DiskFault) = true
is_faulty (Err NoMemory) = false

-- a call of the disk failed
abbrev pub IsFault : MountRefusal → Type 0
IsFault NoHeader = ⊥
IsFault Spent = ⊥
IsFault ReadFault = ⊤
IsFault DiskFault = ⊤
IsFault NoMemory = ⊥
