use Rattle.std.proofs.Common.{false, ◌≡◌, ◌≤◌, length, drop}
use Rattle.base_types.specs.Seal.{Blocks}
use Rattle.crash_record.specs.Found.{fresh_fit}
use Rattle.engine_recover.specs.Reading.{Gives, Searches}
use Rattle.engine_recover.proofs.whole.fresh_fit.Given as goal

-- the entries from here on decide
abbrev pub invariant-loop-entry : goal.invariant-loop-entry
invariant-loop-entry g l = record {
  only : Searches g.D.Disk.tells false (g.D.Disk.state l.fn.disk) (g.D.Disk.state l.disk);
  at : l.entry-index ≤ length l.fresh;
  rest : (img : Blocks) → Gives g.D.Disk.tells (g.D.Disk.state l.fn.disk) img
      → fresh_fit img (drop l.entry-index l.fresh) ≡ fresh_fit img l.fresh;
}
