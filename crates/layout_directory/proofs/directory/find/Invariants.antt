use Rattle.std.proofs.Common.{◌≡◌, ℕ, ◌<◌, ◌≤◌, false}
use Rattle.layout_directory.specs.Directory.{has_name, slot_at}
use Rattle.layout_directory.proofs.directory.find.Given as goal

-- the bytes of no place before this one have the name
abbrev pub invariant-loop-place : goal.invariant-loop-place
invariant-loop-place l = (l.place ≤ l.entries) × ((k : ℕ) → k < l.place → has_name (slot_at l.layout k l.dir) l.wanted ≡ false)
