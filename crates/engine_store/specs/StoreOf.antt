-- A store as a map of blocks: its disk, its session, and what is known of it. It is described in docs/STORE.md.
use Rattle.disk_contract.specs.Disk as disk
use Rattle.disk_contract.specs.declared.disk.Disk.{Ghosts}
use Rattle.crash_argument.specs.Points.{MountedSession}
use Rattle.engine_blocks.specs.State.{State}
use Rattle.engine_store.specs.declared.parts.StoreParts.{StoreParts}
use Rattle.engine_store.specs.declared.store.Store.{Store}
use Rattle.engine_store.specs.Told.{session_of, store_state}

abbrev pub disk_in : {D : Type 0} {k : Ghosts D} → Store D k → D
disk_in s = s.disk

-- what it keeps beside its disk
abbrev pub parts_in : {D : Type 0} {k : Ghosts D} → Store D k → StoreParts
parts_in s = s.parts

-- the session, as crashes are told of
abbrev pub session_in : {D : Type 0} {k : Ghosts D} → Store D k → MountedSession
session_in s = session_of s.parts

-- what is known of a store on a disk of which so much is known
abbrev pub state_of : {D : Type 0} {k : Ghosts D} → (D → disk.State) → Store D k → State
state_of known s = store_state s.parts s.ticks (known s.disk)
