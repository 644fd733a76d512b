use Rattle.std.proofs.Common.{◌≤◌}
use Rattle.engine_store.specs.StoreOf.{state_of}
use Rattle.fs_commands.specs.Opened.{blocks_in}
use Rattle.cmd_upgrade.specs.Looked.{RaisesBy, StaysLookedAt, StaysOnDisk}
use Rattle.cmd_upgrade.proofs.FileLoop.{WritesFront}
use Rattle.cmd_upgrade.proofs.filling.fill_file.Given as goal

abbrev pub invariant-loop-piece : goal.invariant-loop-piece
invariant-loop-piece g l = record {
  upto : l.piece ≤ l.count;
  raises : RaisesBy l.piece (state_of g.D.Disk.state (blocks_in l.fn.image)) (state_of g.D.Disk.state (blocks_in l.image));
  keeps : StaysOnDisk g.D.Disk.tells (state_of g.D.Disk.state (blocks_in l.fn.image)) (state_of g.D.Disk.state (blocks_in l.image));
  keeps_new : StaysOnDisk g.D.Disk.tells (state_of g.D.Disk.state (blocks_in l.fn.new)) (state_of g.D.Disk.state (blocks_in l.new));
  stays : StaysLookedAt g.D.Disk.tells (state_of g.D.Disk.state (blocks_in l.fn.image)) (state_of g.D.Disk.state (blocks_in l.image));
  writes : WritesFront g.D.Disk.tells l.entry l.piece (state_of g.D.Disk.state (blocks_in l.fn.image)) (state_of g.D.Disk.state (blocks_in l.fn.new)) (state_of g.D.Disk.state (blocks_in l.new));
}
