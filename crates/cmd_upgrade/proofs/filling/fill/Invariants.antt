-- The files of the paths before this one have their bytes.
use Rattle.engine_store.specs.StoreOf.{state_of}
use Rattle.fs_commands.specs.Opened.{blocks_in}
use Rattle.cmd_upgrade.proofs.FilesLoop.{FillsUpTo}
use Rattle.cmd_upgrade.proofs.filling.fill.Given as goal

abbrev pub invariant-loop-place : goal.invariant-loop-place
invariant-loop-place g l =
    FillsUpTo g.D.Disk.tells l.plan l.place (state_of g.D.Disk.state (blocks_in l.fn.image)) (state_of g.D.Disk.state (blocks_in l.image)) (state_of g.D.Disk.state (blocks_in l.fn.new)) (state_of g.D.Disk.state (blocks_in l.new))
