-- The refusal of a command for that of a call on files. It is described in docs/FILE-SYSTEM.md.
use Rattle.std.specs.Prelude.{min, ◌^◌, ◌-◌, Option, None, Result, Ok, Err}
use Rattle.lang_tree.specs.declared.command.Refusal.{Refusal}
use Rattle.lang_tree.specs.declared.command.Refusal.TheVariants as because
use Rattle.fs_files.specs.declared.refusal.FileRefusal.{FileRefusal}
use Rattle.fs_files.specs.declared.refusal.FileRefusal.TheVariants as file
use Rattle.fs_snapshots.specs.Kept.{KeptState}
use Rattle.fs_snapshots.specs.declared.refusal.SnapshotRefusal.{SnapshotRefusal}
use Rattle.fs_snapshots.specs.declared.refusal.SnapshotRefusal.TheVariants as snapshot

-- a file never has so many runs that their number doesn't fit
abbrev pub refusal_of : FileRefusal → Refusal
refusal_of file.ReadFault = because.ReadFault
refusal_of (file.Short need reusable) = because.Full need reusable
refusal_of (file.Scattered runs) = because.Scattered (min runs (2 ^ 32 - 1))
refusal_of file.DiskFault = because.DiskFault
refusal_of file.NoMemory = because.NoMemory

-- what a call comes to where a snapshot isn't read: nothing is there where it hasn't the blocks that its parts need
abbrev pub kept_refusal : SnapshotRefusal → Result (Option KeptState) FileRefusal
kept_refusal snapshot.ReadFault = Err file.ReadFault
kept_refusal snapshot.NoMemory = Err file.NoMemory
kept_refusal snapshot.WrongSize = Ok None
