use Rattle.std.proofs.Common.{◌≡◌, ◌≤◌, deque_len}
use Rattle.std.specs.VecDeque.{deque_capacity}
use Rattle.engine_reuse.proofs.Releases.{AreDone}
use Rattle.engine_reuse.proofs.waiting.give_up.Given as goal

-- so many are done, and there is as much room as before
abbrev pub invariant-loop-turn : goal.invariant-loop-turn
invariant-loop-turn l = record {
  done : AreDone l.going_home.members l.initial.waiting.items l.initial.reusable.limit l.initial.reusable.members l.turn l.waiting.items l.kept l.reusable;
  len : deque_len l.waiting ≤ deque_len l.initial.waiting;
  capacity : deque_capacity l.waiting ≡ deque_capacity l.initial.waiting;
}
