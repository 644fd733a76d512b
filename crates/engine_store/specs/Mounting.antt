-- The parts with which a store begins, with which map it begins, and what a mount leaves of the disk. It is described in docs/STORE.md.
use Rattle.std.specs.Prelude.{◌≡◌, ◌↔◌, ℕ, ◌+◌, ◌≤◌, max, Bool, false, true, IsTrue, List, length, None}
use Rattle.base_types.specs.Seal.{Blocks}
use Rattle.engine_cache.specs.Cache.{empty_cache}
use Rattle.disk_contract.specs.declared.event.Event.{Event}
use Rattle.disk_contract.specs.Cell.{cell_of}
use Rattle.disk_contract.specs.Crash.{Window}
use Rattle.disk_contract.specs.Disk as disk
use Rattle.layout_geometry.specs.Geometry.{Geometry}
use Rattle.layout_journal.specs.declared.header.Header.{Header}
use Rattle.engine_recover.specs.Search.{last_number}
use Rattle.crash_argument.specs.Ledger.{HoldsUnder}
use Rattle.crash_argument.specs.Points.{IsMounted, MountedSession}
use Rattle.engine_mount.specs.Mount.{FoundDisk, GoesOn, IsFoundOn, MountSpends, settled_on}
use Rattle.engine_blocks.specs.State.{State}
use Rattle.engine_blocks.specs.Crashes.{HasMapOfPoint, SameRecords}
use Rattle.engine_store.specs.declared.parts.StoreParts.{StoreParts}
use Rattle.engine_store.specs.SessionView.{IsSure, records_of}
use Rattle.engine_store.specs.Opening.{AreNewBooks, IsNewPipeline, empty_ring}

-- the parts with which a store begins under this header, after so many events of the disk: no record, no block in the cache, an empty transaction without a weight, and no point behind the first
pub record AreNewParts (g : Geometry) (slot : ℕ) (h : Header) (moment : ℕ) (v : StoreParts) : Type 0 where
  pub ring : v.ring ≡ empty_ring g
  pub pipeline : IsNewPipeline g slot h v.pipeline
  pub books : AreNewBooks g v.books
  pub weight : v.books.weight ≡ 0
  pub cache : v.cache ≡ empty_cache v.cache.capacity
  pub mounted : v.mounted ≡ moment
  pub first : v.first ≡ h.start
  pub point : v.point ≡ 0
  pub floor : v.floor ≡ 0
  pub going : v.stopped ≡ false

-- a map of blocks begins with this one, which is its map now and that of point 0; point 0 has no other; no block waits, each ring place is free, and no write is owed
pub record BeginsWith (g : Geometry) (m : Blocks) (s : State) : Type 0 where
  pub geom : s.books.geom ≡ g
  pub map : s.map ≡ m
  pub point : s.crash.is_point 0 m
  pub only : HasMapOfPoint s 0
  pub waiting : s.books.waiting ≡ 0
  pub since : (b : ℕ) → s.books.since b ≡ None
  pub free_places : s.books.free_places ≡ g.j
  pub owed : s.books.owed ≡ 0

-- The journal's numbers go on from what was found on the disk: they are at most two above the turn of the newest header there, or at most one above the number of the last record of its run. The session's first record has the number behind that one, and its epoch is one above all that there were. By the session's numbers a point is sure, and its log since the mount tells its records.
pub record GoesOnFrom (d : disk.State) (s : State) : Type 0 where
  pub found : FoundDisk
  pub is_found : IsFoundOn d found
  pub most : s.books.turns ≤ max (found.run.header.turn + 2) (last_number found.run.header (length found.run.records) + 1)
  pub session : MountedSession
  pub geom : session.geom ≡ s.books.geom
  pub first : session.first ≡ last_number found.run.header (length found.run.records) + 1
  pub epoch : session.epoch ≡ found.epoch + 1
  pub mounted : session.mounted ≡ length s.crash.log
  pub sure : (front : List Event) (p : ℕ) → s.crash.sure front p ↔ ∥ IsSure session s.crash.base front p ∥₁
  pub records : SameRecords (records_of session s.crash.base) s.crash.records

-- The mount has ended: nothing is pending on the disk, and the header that opens the journal stands in a slot. It goes on from what was found.
pub record HasOpened (d : disk.State) (s : State) : Type 0 where
  pub slot : ℕ
  pub header : Header
  pub mounted : IsMounted (cell_of s.crash.base s.crash.log) s.books.geom slot header
  pub goes_on : GoesOn d.blocks (settled_on d) header

-- What a mount leaves of the disk, whatever comes of it: where the disk tells, each honest image since the call began holds the map that the disk held, a call other than a read failed only for a reason that the disk's manner has, and the writes that it added, lost ones included, are at most as many as the disk has blocks, and two; and so much was spent.
pub record LeavesDisk (tells unread faulty : Bool) (old new : disk.State) : Type 0 where
  pub holds : IsTrue tells → (g : Geometry) (m : Blocks) → HoldsUnder old.blocks g (settled_on old) m → Window old.blocks old.base new.log (length old.log) (λ img. HoldsUnder old.blocks g img m)
  pub spends : MountSpends unread faulty (old.blocks + 2) old new
  pub cause : IsTrue tells → faulty ≡ true → disk.HasFailed new
  pub written : IsTrue tells → disk.writes_in new.log ≤ disk.writes_in old.log + (old.blocks + 2)

-- what is settled on the disk holds some map under a header of the geometry, and each that it holds so is that of the last point
pub record HoldsLast (d : disk.State) (s : State) : Type 0 where
  pub some : ∥ ((m : Blocks) × HoldsUnder d.blocks s.books.geom (settled_on d) m) ∥₁
  pub each : (m : Blocks) → HoldsUnder d.blocks s.books.geom (settled_on d) m → s.crash.is_point s.books.point m
