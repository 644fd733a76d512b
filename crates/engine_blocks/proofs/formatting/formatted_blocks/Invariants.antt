use Rattle.std.proofs.Common.{◌≡◌, ◌≤◌, ◌-◌, map}
use Rattle.std.specs.List.{range_with_len}
use Rattle.std.specs.Prelude.{vec_capacity}
use Rattle.layout_journal.specs.Formatted.{formatted}
use Rattle.engine_blocks.proofs.formatting.formatted_blocks.Given as goal

abbrev pub invariant-loop-b : goal.invariant-loop-b
invariant-loop-b l = (l.blocks.items ≡ map (formatted l.geom) (range_with_len l.first (l.b - l.first))) × (l.first ≤ l.b) × (l.end - l.first ≤ vec_capacity l.blocks)
