use Rattle.std.proofs.Common.{◌≡◌, ℕ, ◌≤◌, length, drop, None}
use Rattle.std.specs.Ordering.{nat_cmp}
use Rattle.std.specs.BTreeMap.{get}
use Rattle.engine_recover.specs.Payload.{stored_after}
use Rattle.engine_recover.proofs.stored.stored_by.Given as goal

-- the records from here on, after what stands, leave what all of them leave
abbrev pub invariant-loop-each : goal.invariant-loop-each
invariant-loop-each l = record {
  at : l.each-index ≤ length l.run;
  each : (b : ℕ) → stored_after l.geom (get nat_cmp l.stored b) (drop l.each-index l.run) b ≡ stored_after l.geom None l.run b;
}
