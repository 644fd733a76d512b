use Rattle.std.proofs.Common.{◌≡◌, ◌≤◌, ℕ, true, drop}
use Rattle.layout_journal.specs.Run.{names_block, are_ascending}
use Rattle.crash_record.proofs.order.from_block.Given as goal

-- the entries before this one are below the block
abbrev pub invariant-loop-at : goal.invariant-loop-at
invariant-loop-at l = ((b : ℕ) → l.block ≤ b → names_block (drop l.at l.entries) b ≡ names_block l.entries b) × ((low high : ℕ) → are_ascending low high l.entries ≡ true → (from : ℕ) × (are_ascending from high (drop l.at l.entries) ≡ true))
