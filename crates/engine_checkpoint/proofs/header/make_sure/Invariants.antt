use Rattle.std.proofs.Common.{◌≡◌, ◌++◌, List, length, drop}
use Rattle.std.specs.VecDeque.{deque_capacity}
use Rattle.engine_running.specs.declared.states.Sure.{Sure}
use Rattle.engine_checkpoint.specs.Turns.{AreSured}
use Rattle.engine_checkpoint.proofs.header.make_sure.Given as goal

-- so many are sure
abbrev pub invariant-loop-turn : goal.invariant-loop-turn
invariant-loop-turn l = record {
  sure : (news : List Sure) × (l.sure.items ≡ l.initial.sure.items ++ news) × (length news ≡ l.turn) × AreSured l.initial.durable.items news;
  durable : l.durable.items ≡ drop l.turn l.initial.durable.items;
  capacity : (deque_capacity l.durable ≡ deque_capacity l.initial.durable) × (deque_capacity l.sure ≡ deque_capacity l.initial.sure);
}
