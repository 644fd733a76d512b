-- The put of the block is where the search says, or nowhere.
use Rattle.engine_running.proofs.ordering.RowSteps.{taken_out, none_there}
use Rattle.std.proofs.Common.{◌∙◌}
use Rattle.engine_running.proofs.rows.take_out.Goals as goal

pub returns-then-not-is_at-clause-items : goal.returns-then-not-is_at-clause-items
returns-then-not-is_at-clause-items c = none_there c.args.row.now.items c.as_slice.result.now c.as_slice-2.result.now c.place_of-at.result c.args.block c.is_at.result (record { first = c.as_slice.ensures.value; second = c.as_slice-2.ensures.value; rising = c.requires; bound = c.place_of-at.ensures.bound; below = c.place_of-at.ensures.below; above = c.place_of-at.ensures.above; there = c.is_at.ensures.there; other = c.is_at.ensures.other }) c.if-not-is_at.true

pub returns-clause-items : goal.returns-clause-items
returns-clause-items c = c.remove.ensures.items ∙ taken_out c.args.row.now.items c.as_slice.result.now c.as_slice-2.result.now c.place_of-at.result c.args.block c.is_at.result (record { first = c.as_slice.ensures.value; second = c.as_slice-2.ensures.value; rising = c.requires; bound = c.place_of-at.ensures.bound; below = c.place_of-at.ensures.below; above = c.place_of-at.ensures.above; there = c.is_at.ensures.there; other = c.is_at.ensures.other }) c.if-not-is_at.false
