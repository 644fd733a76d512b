-- A bay of image files as far as contracts know it: its counts.
use Rattle.std.specs.Prelude.{ℕ, true, None}
use Rattle.disk_contract.specs.Bay.{BayState}
use Rattle.disk_contract.specs.Manner.{any_manner}

pub record FileBayState : Type 0 where
  pub faults : ℕ
  pub disk_faults : ℕ
  pub handed : ℕ
  pub closed : ℕ

-- what the contract of bays says of it; what is kept isn't told, and any call may fail, of the bay and of its disks
abbrev pub bay_of : FileBayState → BayState
bay_of m = record { faults = m.faults; disk_faults = m.disk_faults; handed = m.handed; closed = m.closed; may_fail = true; manner = λ _. any_manner; kept = λ _. None }
