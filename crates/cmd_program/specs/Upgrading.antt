-- What the program does where its words ask that the tree of an image is made again on a new disk of layout 2. It is described in docs/PROMISES.md.
use Rattle.std.specs.Prelude.{◌≡◌, ℕ, Bool, IsTrue, List, Option, Result, Ok, Err, OnOk}
use Rattle.layout_geometry.specs.Geometry.{Geometry}
use Rattle.cmd_upgrade.specs.declared.refusal.UpgradeRefusal.{UpgradeRefusal}
use Rattle.cmd_upgrade.specs.declared.refusal.UpgradeRefusal.TheVariants as upgrade
use Rattle.cmd_upgrade.specs.Upgrades.{HasRoomCause, LeavesBoth, SameBeside, UpgradesTo}
use Rattle.cmd_program.specs.Endings.{EndsBehind, EndsSilent, Met, damaged_line, disk_line, room_line, spent_line}
use Rattle.cmd_program.specs.declared.status.Status.{Status}
use Rattle.cmd_program.specs.declared.status.Status.TheVariants.{Damaged, DiskFault, Done, NoMemory, NoRoom, Spent}

-- how the run ends behind an upgrade that was answered so: with the status of the answer, behind its last line where it has one
abbrev pub EndsUpgrading : Result (Unit {0}) UpgradeRefusal → Status → Option (List ℕ) → Option (List ℕ) → Type 0
EndsUpgrading (Ok x) = EndsSilent Done
EndsUpgrading (Err upgrade.Fault) = EndsBehind DiskFault disk_line
EndsUpgrading (Err (upgrade.Damaged damage)) = EndsBehind (Damaged damage) damaged_line
EndsUpgrading (Err upgrade.Spent) = EndsBehind Spent spent_line
EndsUpgrading (Err upgrade.NoRoom) = EndsBehind NoRoom room_line
EndsUpgrading (Err upgrade.NoMemory) = EndsSilent NoMemory

-- The tree of the image was to be made again under the other name, on a disk of this geometry, with this answer; then the run ended with this status. Where the bay tells, what is under the two names once all was done is as `cmd_upgrade` says it, there is no room exactly where the disk doesn't take the tree, and what is under each other name is as it was.
pub record UpgradesImageTo (tells : Bool) (image other : List ℕ) (g : Geometry) (status : Status) (m : Met) : Type 0 where
  pub answer : Result (Unit {0}) UpgradeRefusal
  pub leaves : IsTrue tells → OnOk answer (LeavesBoth image other g m.bay m.bay_now)
  pub room : IsTrue tells → HasRoomCause g answer (m.bay.kept image)
  pub others : IsTrue tells → SameBeside image other m.bay m.bay_now
  pub comes : UpgradesTo tells image other g answer m.bay m.bay_now
  pub ends : EndsUpgrading answer status m.taken m.taken_now
