-- Each step has visited a directory, and so many as are in the plan are visited or still to be.
use Rattle.std.proofs.Common.{◌≡◌, ◌+◌, ◌≤◌, length}
use Rattle.engine_store.specs.StoreOf.{state_of}
use Rattle.fs_commands.specs.Opened.{blocks_in}
use Rattle.cmd_upgrade.specs.Looked.{OfLooked, RaisesBy, StaysLookedAt, StaysOnDisk}
use Rattle.cmd_upgrade.specs.Plans.{IsPlanOf, dirs_among}
use Rattle.cmd_upgrade.proofs.walk.plan_of.Given as goal

abbrev pub invariant-loop : goal.invariant-loop
invariant-loop g l = record {
  keeps : StaysOnDisk g.D.Disk.tells (state_of g.D.Disk.state (blocks_in l.fn.served)) (state_of g.D.Disk.state (blocks_in l.served));
  stays : StaysLookedAt g.D.Disk.tells (state_of g.D.Disk.state (blocks_in l.fn.served)) (state_of g.D.Disk.state (blocks_in l.served));
  plan : OfLooked g.D.Disk.tells (state_of g.D.Disk.state (blocks_in l.fn.served)) (λ t. IsPlanOf l.layout t l.todo.items l.plan);
  upto : l.counter ≤ l.most;
  raises : OfLooked g.D.Disk.tells (state_of g.D.Disk.state (blocks_in l.fn.served)) (λ t. RaisesBy (l.counter + length l.plan.entries.items) (state_of g.D.Disk.state (blocks_in l.fn.served)) (state_of g.D.Disk.state (blocks_in l.served)));
  dirs : l.counter + length l.todo.items ≡ 1 + dirs_among l.plan.entries.items;
}
