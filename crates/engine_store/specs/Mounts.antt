-- What a mount of a disk on which nothing is pending does. It is described in docs/STORE.md.
use Rattle.std.specs.Prelude.{Bool, false, IsTrue, Result, IfOk, IfErr}
use Rattle.base_types.specs.Seal.{Blocks}
use Rattle.disk_contract.specs.Disk as disk
use Rattle.disk_contract.specs.declared.disk.Disk.{Ghosts}
use Rattle.layout_geometry.specs.Geometry.{Geometry}
use Rattle.crash_argument.specs.Ledger.{HoldsUnder}
use Rattle.crash_argument.specs.Opening.{StopsAtOne, WritesOne}
use Rattle.engine_mount.specs.Mount.{HasNothingToReplay, settled_on}
use Rattle.engine_blocks.specs.Crashes.{IsBegun}
use Rattle.engine_store.specs.declared.refusal.StoreRefusal.{StoreRefusal}
use Rattle.engine_store.specs.declared.store.Store.{Store}
use Rattle.engine_store.specs.Mounting.{BeginsWith, GoesOnFrom, HasOpened, LeavesDisk}
use Rattle.engine_store.specs.Refusal.{MayBeMounted, RefusalSays, is_disk_fault, is_read_fault}
use Rattle.engine_store.specs.StoreOf.{disk_in, state_of}

-- The disk d, of which so much is known, is mounted, or comes back with the refusal.
pub record Mounts {D : Type 0} {k : Ghosts D} (tells : Bool) (known : D → disk.State) (d : D) (result : Result (Store D k) (D × StoreRefusal)) : Type 0 where
  -- a session has begun
  pub begun : IfOk result (λ s. IsBegun (state_of known s))
  -- with the map that the disk held
  pub begins : IsTrue tells → (g : Geometry) (m : Blocks) → HoldsUnder (known d).blocks g (settled_on (known d)) m → IfOk result (λ s. BeginsWith g m (state_of known s))
  -- what was on the disk may be mounted
  pub mountable : IsTrue tells → IfOk result (λ s. MayBeMounted (known d))
  -- each honest image holds that map still, and so much was written and spent
  pub leaves : IfOk result (λ s. LeavesDisk tells false false (known d) (known (disk_in s)))
  pub back : IfErr result (λ e. LeavesDisk tells (is_read_fault e.1) (is_disk_fault e.1) (known d) (known e.0))
  -- a refusal has its reason
  pub refused : IsTrue tells → IfErr result (λ e. RefusalSays (known d) (known e.0) e.1)
  -- the journal's numbers go on from what was found
  pub numbers : IsTrue tells → IfOk result (λ s. GoesOnFrom (known d) (state_of known s))
  -- the header that opens the journal stands in a slot
  pub opens : IsTrue tells → IfOk result (λ s. HasOpened (known d) (state_of known s))
  -- where there was no record to replay, that header's write was the only one, or the last one that failed
  pub alone : IsTrue tells → HasNothingToReplay (known d) → IfOk result (λ s. WritesOne (known d).log (known (disk_in s)).log)
  pub stops : IsTrue tells → HasNothingToReplay (known d) → IfErr result (λ e. StopsAtOne (known d).manner (known d).log (known e.0).log)
