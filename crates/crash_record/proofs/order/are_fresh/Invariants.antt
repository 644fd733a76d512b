use Rattle.std.proofs.Common.{◌≡◌, ◌≤◌, ℕ, true, length, drop}
use Rattle.layout_journal.specs.Run.{are_fresh, are_ascending, names_block}
use Rattle.crash_record.proofs.order.are_fresh.Given as goal

-- the entries from here on decide, and what is left of the payloads names the same blocks, from the next entry's on
abbrev pub invariant-loop-entry : goal.invariant-loop-entry
invariant-loop-entry l = record {
  inside : l.entry-index ≤ length l.fresh;
  decides : are_fresh l.geom l.payloads (drop l.entry-index l.fresh) ≡ are_fresh l.geom l.payloads l.fresh;
  from : (low : ℕ) × (are_ascending low l.geom.n (drop l.entry-index l.fresh) ≡ true) × ((b : ℕ) → low ≤ b → names_block l.left b ≡ names_block l.payloads b);
  left : (low : ℕ) × (are_ascending low l.geom.n l.left ≡ true);
}
