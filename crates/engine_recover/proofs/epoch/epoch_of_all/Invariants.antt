use Rattle.std.proofs.Common.{false, ◌≡◌}
use Rattle.base_types.specs.Seal.{Blocks}
use Rattle.engine_recover.specs.Reading.{Gives, Searches}
use Rattle.engine_recover.proofs.Epochs.{greatest_of}
use Rattle.engine_recover.proofs.epoch.epoch_of_all.Given as goal

-- the greatest epoch of the slots and of the places before this one
abbrev pub invariant-loop-place : goal.invariant-loop-place
invariant-loop-place g l = record {
  only : Searches g.D.Disk.tells false (g.D.Disk.state l.fn.disk) (g.D.Disk.state l.disk);
  value : (img : Blocks) → Gives g.D.Disk.tells (g.D.Disk.state l.fn.disk) img → l.greatest ≡ greatest_of l.geom img l.place;
}
