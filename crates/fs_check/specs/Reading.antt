-- What reading calls of the check have in common.
use Rattle.std.specs.Prelude.{⊤, Bool, true, false, Result, Ok, Err}
use Rattle.fs_files.specs.declared.refusal.FileRefusal.{FileRefusal}
use Rattle.fs_files.specs.declared.refusal.FileRefusal.TheVariants as file
use Rattle.fs_check.specs.declared.damage.TreeDamage.{TreeDamage}
use Rattle.fs_check.specs.declared.damage.TreeRefusal.{TreeRefusal}
use Rattle.fs_check.specs.declared.damage.TreeRefusal.TheVariants as tree

-- why a check ends where a call on a file was refused
abbrev pub refusal_of : FileRefusal → TreeRefusal
refusal_of file.ReadFault = tree.ReadFault
refusal_of (file.Short need reusable) = tree.NoMemory
refusal_of (file.Scattered runs) = tree.NoMemory
refusal_of file.DiskFault = tree.NoMemory
refusal_of file.NoMemory = tree.NoMemory

-- whether the check ended by a failed read
abbrev pub fails_by : TreeRefusal → Bool
fails_by (tree.Damaged what) = false
fails_by tree.ReadFault = true
fails_by tree.NoMemory = false

abbrev pub fails_reading : {T : Type 0} → Result T TreeRefusal → Bool
fails_reading (Ok x) = false
fails_reading (Err why) = fails_by why

-- what must hold where something is broken
abbrev pub IfDamaged : TreeRefusal → (TreeDamage → Type 0) → Type 0
IfDamaged (tree.Damaged what) P = P what
IfDamaged tree.ReadFault P = ⊤
IfDamaged tree.NoMemory P = ⊤

-- the check ended by a failed read or out of memory
abbrev pub IsUndamaged : TreeRefusal → Type 0
IsUndamaged (tree.Damaged what) = ⊥
IsUndamaged tree.ReadFault = ⊤
IsUndamaged tree.NoMemory = ⊤
