use Rattle.std.proofs.Common.{ℕ, List}
use Rattle.base_types.specs.Seal.{Blocks}
use Rattle.disk_contract.specs.declared.event.Event.{Event}
use Rattle.layout_journal.specs.Ring.{RingPlaces}
use Rattle.crash_argument.specs.Ledger.{Ledger}
use Rattle.crash_argument.specs.Points.{MountedSession, IsSafe}
use Rattle.engine_checkpoint.specs.Agree.{PipelineAgrees}
use Rattle.engine_checkpoint.specs.Order.{IsInOrder, HasRoom}
use Rattle.engine_checkpoint.specs.Steps.{SettlesSome}
use Rattle.engine_checkpoint.specs.Advance.{AgreesOn}
use Rattle.engine_checkpoint.proofs.advance.settle_all.Given as goal

abbrev pub invariant-loop-turn : goal.invariant-loop-turn
invariant-loop-turn l = record {
  settles : SettlesSome l.turn l.fn.pipeline l.pipeline;
  order : IsInOrder l.pipeline;
  room : HasRoom l.pipeline;
  agrees : (s : MountedSession) (base : Blocks) (log : List Event) (k : Ledger) (t floor : ℕ) (ring : RingPlaces) (waiting : List (ℕ × ℕ)) (taken : List ℕ) → IsSafe s base log k t floor → PipelineAgrees base log k l.fn.pipeline ring waiting taken → AgreesOn s base log k t floor l.pipeline ring waiting taken;
}
