use Rattle.std.proofs.Common.{false, ◌≡◌, ◌+◌, ◌≤◌, length, drop}
use Rattle.base_types.specs.Seal.{Blocks}
use Rattle.crash_record.specs.Found.{payloads_fit}
use Rattle.engine_recover.specs.Reading.{Gives, Searches}
use Rattle.engine_recover.proofs.whole.payloads_fit.Given as goal

-- the payloads from here on decide
abbrev pub invariant-loop-entry : goal.invariant-loop-entry
invariant-loop-entry g l = record {
  only : Searches g.D.Disk.tells false (g.D.Disk.state l.fn.disk) (g.D.Disk.state l.disk);
  at : l.entry-index ≤ length l.payloads;
  place : l.place ≡ l.first + l.entry-index;
  rest : (img : Blocks) → Gives g.D.Disk.tells (g.D.Disk.state l.fn.disk) img
      → payloads_fit l.geom img (l.first + l.entry-index) (drop l.entry-index l.payloads) ≡ payloads_fit l.geom img l.first l.payloads;
}
