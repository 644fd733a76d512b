use Rattle.std.proofs.Common.{◌≤◌, length}
use Rattle.engine_store.specs.StoreOf.{state_of}
use Rattle.fs_commands.specs.Opened.{blocks_in}
use Rattle.cmd_upgrade.specs.Looked.{StaysOnDisk}
use Rattle.cmd_upgrade.proofs.PathLoop.{MakesFront}
use Rattle.cmd_upgrade.proofs.filling.make_paths.Given as goal

abbrev pub invariant-loop-place : goal.invariant-loop-place
invariant-loop-place g l = record {
  upto : l.place ≤ length l.plan.entries.items;
  keeps : StaysOnDisk g.D.Disk.tells (state_of g.D.Disk.state (blocks_in l.fn.new)) (state_of g.D.Disk.state (blocks_in l.new));
  makes : MakesFront g.D.Disk.tells l.plan l.place (state_of g.D.Disk.state (blocks_in l.fn.new)) (state_of g.D.Disk.state (blocks_in l.new));
}
