-- The names before this one came to the plan, behind the entries that were there.
use Rattle.std.proofs.Common.{◌≡◌, ◌+◌, ◌≤◌, ◌++◌, List, length}
use Rattle.engine_store.specs.StoreOf.{state_of}
use Rattle.fs_commands.specs.Opened.{blocks_in}
use Rattle.cmd_upgrade.specs.declared.plan.Entry.{Entry}
use Rattle.cmd_upgrade.specs.Looked.{OfLooked, RaisesBy, StaysLookedAt, StaysOnDisk}
use Rattle.cmd_upgrade.proofs.Visiting.{Visits}
use Rattle.cmd_upgrade.proofs.walk.visit.Given as goal

abbrev pub invariant-loop-name : goal.invariant-loop-name
invariant-loop-name g l = record {
  upto : l.name-index ≤ length l.names;
  raises : RaisesBy (1 + l.name-index) (state_of g.D.Disk.state (blocks_in l.fn.served)) (state_of g.D.Disk.state (blocks_in l.served));
  count : length l.plan.entries.items ≡ length l.fn.plan.entries.items + l.name-index;
  keeps : StaysOnDisk g.D.Disk.tells (state_of g.D.Disk.state (blocks_in l.fn.served)) (state_of g.D.Disk.state (blocks_in l.served));
  stays : StaysLookedAt g.D.Disk.tells (state_of g.D.Disk.state (blocks_in l.fn.served)) (state_of g.D.Disk.state (blocks_in l.served));
  visits : OfLooked g.D.Disk.tells (state_of g.D.Disk.state (blocks_in l.fn.served)) (λ t. Visits t l.dir l.names l.name-index l.initial.plan l.plan);
  more : (added : List Entry) × (l.plan.entries.items ≡ l.fn.plan.entries.items ++ added);
}
