use Rattle.std.proofs.Common.{◌≡◌, ◌≤◌, ◌+◌, ◌++◌, ◌&&◌, ℕ, None, if◌then◌else◌, take, drop, map}
use Rattle.std.specs.VecDeque.{deque_len, deque_capacity}
use Rattle.engine_checkpoint.specs.Batch.{placed_of, have_payload}
use Rattle.engine_checkpoint.specs.Kept.{of_sure, payloads_in}
use Rattle.engine_checkpoint.specs.Newest.{spot_of, spot_room, is_upto}
use Rattle.engine_checkpoint.proofs.batch.place_first.Given as goal

abbrev pub invariant-loop-turn : goal.invariant-loop-turn
invariant-loop-turn l = record {
  left : l.left + payloads_in (map of_sure (take l.turn l.fn.records.items)) ≡ l.fn.unplaced;
  rest : l.records.items ≡ drop l.turn l.fn.records.items;
  rest_room : deque_capacity l.fn.records ≤ deque_capacity l.records;
  placed : l.placed.items ≡ l.fn.placed.items ++ map placed_of (take l.turn l.fn.records.items);
  placed_len : deque_len l.placed ≡ deque_len l.fn.placed + l.turn;
  placed_room : deque_capacity l.fn.placed ≤ deque_capacity l.placed;
  newest : (b : ℕ) → spot_of l.newest b ≡ (if have_payload b (map of_sure (take l.turn l.fn.records.items)) && is_upto l.last (spot_of l.fn.newest b) then None else spot_of l.fn.newest b);
  spare : spot_room l.fn.newest ≤ spot_room l.newest;
}
