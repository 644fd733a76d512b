-- What the answer of a check says. It is described in docs/FSCK.md.
use Rattle.std.specs.Prelude.{⊤, Bool, true, false, Result, Ok, Err}
use Rattle.fs_check.specs.declared.block_damage.BlockDamage.{BlockDamage}
use Rattle.fs_check.specs.declared.block_damage.BlocksRefusal.{BlocksRefusal}
use Rattle.fs_check.specs.declared.block_damage.BlocksRefusal.TheVariants as refusal

-- whether a check was refused by a failed read
abbrev pub fails_reading : {T : Type 0} → Result T BlocksRefusal → Bool
fails_reading (Ok x) = false
fails_reading (Err (refusal.Damaged damage)) = false
fails_reading (Err refusal.ReadFault) = true
fails_reading (Err refusal.NoMemory) = false

-- what must hold of the damage that a check found, where it found some
abbrev pub IfDamaged : {T : Type 0} → Result T BlocksRefusal → (BlockDamage → Type 0) → Type 0
IfDamaged (Ok x) P = ⊤
IfDamaged (Err (refusal.Damaged damage)) P = P damage
IfDamaged (Err refusal.ReadFault) P = ⊤
IfDamaged (Err refusal.NoMemory) P = ⊤
