use Rattle.std.proofs.Common.{◌≡◌, ℕ, ◌≤◌, length, drop, None, if◌then◌else◌}
use Rattle.std.specs.Ordering.{nat_cmp}
use Rattle.std.specs.BTreeMap.{get}
use Rattle.layout_journal.specs.Run.{names_block}
use Rattle.engine_recover.proofs.stored.take_out_fresh.Given as goal

-- what the blocks from here on leave is what all of them leave
abbrev pub invariant-loop-entry : goal.invariant-loop-entry
invariant-loop-entry l = record {
  at : l.entry-index ≤ length l.fresh;
  each : (b : ℕ) → (if names_block (drop l.entry-index l.fresh) b then None else get nat_cmp l.stored b) ≡ (if names_block l.fresh b then None else get nat_cmp l.fn.stored b);
}
