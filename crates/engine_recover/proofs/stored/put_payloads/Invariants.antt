use Rattle.std.proofs.Common.{◌≡◌, ℕ, ◌+◌, ◌≤◌, length, drop}
use Rattle.std.specs.Ordering.{nat_cmp}
use Rattle.std.specs.BTreeMap.{get}
use Rattle.engine_recover.specs.Payload.{or_before, stored_from}
use Rattle.engine_recover.proofs.stored.put_payloads.Given as goal

abbrev pub decreases-loop-left : goal.decreases-loop-left
decreases-loop-left l = l.left

-- the payloads from here on stand
abbrev pub invariant-loop-left : goal.invariant-loop-left
invariant-loop-left l = record {
  at : l.left ≤ length l.payloads;
  each : (b : ℕ) → get nat_cmp l.stored b ≡ or_before (stored_from l.geom (l.first + l.left) (drop l.left l.payloads) b) (get nat_cmp l.fn.stored b);
}
