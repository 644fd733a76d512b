-- A disk on an image file as far as contracts know it: its numbers, and nothing of its contents.
use Rattle.std.specs.Prelude.{ℕ, []}
use Rattle.disk_contract.specs.Disk.{State}
use Rattle.disk_contract.specs.Manner.{any_manner}
use Rattle.disk_file.specs.Notices.{NoticesState}

-- a disk on a file: its number of blocks, the last ticket that it gave, up to which ticket the file was synced, which tickets are over, and its counts
pub record FileDiskState : Type 0 where
  pub blocks : ℕ
  pub last : ℕ
  pub synced : ℕ
  pub notices : NoticesState
  pub faults : ℕ
  pub read_faults : ℕ
  pub waits : ℕ
  pub polls : ℕ

-- what the contract of disks says of it; its base and its log aren't told, and anything may come by its manner
abbrev pub state_of : FileDiskState → State
state_of d = record { blocks = d.blocks; base = λ _. []; log = []; faults = d.faults; read_faults = d.read_faults; waits = d.waits; polls = d.polls; manner = any_manner }

-- a disk of so many blocks on which nothing was done
abbrev pub opened : ℕ → FileDiskState
opened n = record { blocks = n; last = 0; synced = 0; notices = record { upto = 0; waited = []; most = 0 }; faults = 0; read_faults = 0; waits = 0; polls = 0 }
