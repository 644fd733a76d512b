use Rattle.std.proofs.Common.{◌≡◌, ◌≤◌, ◌+◌, ◌-◌, vec_len, vec_capacity}
use Rattle.engine_running.specs.Running.{IsOrdered, IsRisingNumbers}
use Rattle.engine_running.proofs.running.Running.reserve.Given as goal

-- the fields as they are, and what of them was so before
abbrev pub invariant-loop-turn : goal.invariant-loop-turn
invariant-loop-turn l =
    let r = l.self-inside in
    let old = l.fn.self in
    record {
      ordered : IsOrdered r.paid.items r.laid.items;
      numbers : IsRisingNumbers r.taken.items;
      same_paid : r.paid.items ≡ old.paid;
      same_laid : r.laid.items ≡ old.laid;
      same_taken : r.taken.items ≡ old.taken;
      same_freed : r.freed.items ≡ old.freed;
      boxes : old.puts + l.turn ≤ vec_len r.spare;
      paid : vec_len r.paid + vec_len r.laid + vec_len r.spare + (l.more - l.turn) ≤ vec_capacity r.paid;
      laid : vec_len r.paid + vec_len r.laid + vec_len r.spare + (l.more - l.turn) ≤ vec_capacity r.laid;
      back : vec_len r.paid + vec_len r.laid + vec_len r.spare + (l.more - l.turn) ≤ vec_capacity r.spare;
      old_takes : old.takes ≤ vec_capacity r.taken - vec_len r.taken;
      old_frees : old.frees ≤ vec_capacity r.freed - vec_len r.freed;
      takes : l.takes ≤ vec_capacity r.taken - vec_len r.taken;
      frees : l.frees ≤ vec_capacity r.freed - vec_len r.freed;
    }
