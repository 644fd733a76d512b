use Rattle.std.proofs.Common.{◌≡◌, ◌+◌, ◌++◌, map, take, deque_len}
use Rattle.std.specs.VecDeque.{deque_capacity}
use Rattle.engine_reuse.proofs.waiting.add_waiting.Given as goal

-- so many blocks wait already
abbrev pub invariant-loop-block : goal.invariant-loop-block
invariant-loop-block l =
    (l.waiting.items ≡ l.initial.waiting.items ++ map (λ b. record { block = b; number = l.number }) (take l.block-index l.blocks))
    × (deque_len l.waiting ≡ deque_len l.initial.waiting + l.block-index) × (deque_capacity l.waiting ≡ deque_capacity l.initial.waiting)
