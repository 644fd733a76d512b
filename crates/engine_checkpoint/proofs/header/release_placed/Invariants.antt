use Rattle.std.proofs.Common.{◌≡◌, take, drop, map}
use Rattle.std.specs.VecDeque.{deque_capacity}
use Rattle.layout_journal.specs.Ring.{without_places}
use Rattle.engine_checkpoint.specs.Kept.{total, placed_count}
use Rattle.engine_checkpoint.proofs.header.release_placed.Given as goal

-- so many are released
abbrev pub invariant-loop-turn : goal.invariant-loop-turn
invariant-loop-turn l = record {
  items : l.placed.items ≡ drop l.turn l.initial.placed.items;
  capacity : deque_capacity l.placed ≡ deque_capacity l.initial.placed;
  ring : l.ring ≡ without_places l.initial.ring (total (map placed_count (take l.turn l.initial.placed.items)));
}
