use Rattle.std.proofs.Common.{◌≡◌, ◌++◌, ◌-◌, ℕ, false, IsTrue, List, Some, length}
use Rattle.disk_contract.specs.Disk.{Spends}
use Rattle.disk_contract.specs.Manner.{Polled, after_polls}
use Rattle.layout_journal.specs.Ring.{RingPlaces}
use Rattle.crash_argument.specs.Ledger.{Ledger}
use Rattle.crash_argument.specs.Points.{MountedSession, IsSafe}
use Rattle.disk_contract.specs.Cell.{notices}
use Rattle.engine_checkpoint.specs.Agree.{PipelineAgrees}
use Rattle.engine_checkpoint.specs.Steps.{TakesAll}
use Rattle.engine_checkpoint.specs.Waits.{HearsMore}
use Rattle.engine_checkpoint.proofs.pipeline.take_notices.Given as goal

abbrev pub invariant-loop-turn : goal.invariant-loop-turn
invariant-loop-turn g l = record {
  spends : Spends false 0 l.turn (g.D.Disk.state l.fn.disk) (g.D.Disk.state l.disk);
  rest : l.pipeline ≡ record l.fn.pipeline { notes = l.pipeline.notes };
  hears : HearsMore l.fn.pipeline.notes l.pipeline.notes;
  takes : IsTrue g.D.Disk.tells → (ts : List ℕ) × (length ts ≡ l.turn) × ((g.D.Disk.state l.disk).log ≡ (g.D.Disk.state l.fn.disk).log ++ notices ts) × TakesAll ts l.fn.pipeline.notes.notes l.pipeline.notes.notes;
  polled : IsTrue g.D.Disk.tells → (p : Polled) → after_polls (g.D.Disk.state l.fn.disk).manner 64 (g.D.Disk.state l.fn.disk).polls (g.D.Disk.state l.fn.disk).log ≡ Some p → after_polls (g.D.Disk.state l.fn.disk).manner (64 - l.turn) (g.D.Disk.state l.disk).polls (g.D.Disk.state l.disk).log ≡ Some p;
  agrees : IsTrue g.D.Disk.tells → (s : MountedSession) (k : Ledger) (t floor : ℕ) (ring : RingPlaces) (waiting : List (ℕ × ℕ)) (taken : List ℕ) → IsSafe s (g.D.Disk.state l.fn.disk).base (g.D.Disk.state l.fn.disk).log k t floor → PipelineAgrees (g.D.Disk.state l.fn.disk).base (g.D.Disk.state l.fn.disk).log k l.fn.pipeline ring waiting taken
      → IsSafe s (g.D.Disk.state l.disk).base (g.D.Disk.state l.disk).log k t floor × PipelineAgrees (g.D.Disk.state l.disk).base (g.D.Disk.state l.disk).log k l.pipeline ring waiting taken;
}
