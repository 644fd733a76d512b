use Rattle.std.proofs.Common.{◌≡◌, ◌≤◌, length, drop}
use Rattle.base_types.specs.Seal.{blocks_of}
use Rattle.crash_record.specs.Found.{fresh_fit}
use Rattle.crash_plain_recovery.proofs.whole.fresh_fit.Given as goal

-- the entries from here on decide
abbrev pub invariant-loop-entry : goal.invariant-loop-entry
invariant-loop-entry l = (l.entry-index ≤ length l.fresh) × (fresh_fit (blocks_of l.image) (drop l.entry-index l.fresh) ≡ fresh_fit (blocks_of l.image) l.fresh)
