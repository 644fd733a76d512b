-- Why a snapshot wasn't read.
use Rattle.std.specs.Prelude.{Bool, true, false, Result, Ok, Err}
use Rattle.fs_snapshots.specs.declared.refusal.SnapshotRefusal.{SnapshotRefusal}
use Rattle.fs_snapshots.specs.declared.refusal.SnapshotRefusal.TheVariants as refusal

-- whether a call was refused by a failed read
abbrev pub fails_reading : {T : Type 0} → Result T SnapshotRefusal → Bool
fails_reading (Ok x) = false
fails_reading (Err refusal.ReadFault) = true
fails_reading (Err refusal.WrongSize) = false
fails_reading (Err refusal.NoMemory) = false
