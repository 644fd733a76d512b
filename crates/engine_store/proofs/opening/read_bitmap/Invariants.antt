use Rattle.std.proofs.Common.{◌≡◌, ◌≤◌, false, IsTrue, vec_len, vec_capacity}
use Rattle.engine_recover.specs.Reading.{Searches}
use Rattle.engine_mount.specs.Mount.{IsIdle, settled_on}
use Rattle.engine_store.proofs.Bitmaps.{AreRead}
use Rattle.engine_store.proofs.opening.read_bitmap.Given as goal

abbrev pub invariant-loop-k : goal.invariant-loop-k
invariant-loop-k g l = record {
  upto : l.k ≤ l.count;
  reads : Searches g.D.Disk.tells false (g.D.Disk.state l.fn.disk) (g.D.Disk.state l.disk);
  size : vec_len l.bitmap ≡ l.k;
  capacity : vec_capacity l.bitmap ≡ l.count;
  read : IsTrue g.D.Disk.tells → IsIdle (g.D.Disk.state l.fn.disk) → AreRead l.found.run (settled_on (g.D.Disk.state l.fn.disk)) l.bitmap.items;
}
