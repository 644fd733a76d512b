-- The put goes where the search says.
use Rattle.std.proofs.Common.{slice_set, ◌∙◌, ap, refl}
use Rattle.std.proofs.lemmas.Bool.{cond-true}
use Rattle.engine_running.proofs.ordering.RowSteps.{put_there, put_new}
use Rattle.engine_running.proofs.rows.put_in.Goals as goal

pub returns-then-is_at-clause-items : goal.returns-then-is_at-clause-items
returns-then-is_at-clause-items c = ap (slice_set c.args.row.now.items c.place_of-at.result) c.replace.ensures.after
    ∙ put_there c.args.row.now.items c.as_slice.result.now c.as_slice-2.result.now c.place_of-at.result c.args.put.block c.is_at.result (record { first = c.as_slice.ensures.value; second = c.as_slice-2.ensures.value; rising = c.requires.rising; bound = c.place_of-at.ensures.bound; below = c.place_of-at.ensures.below; above = c.place_of-at.ensures.above; there = c.is_at.ensures.there; other = c.is_at.ensures.other }) c.args.put refl c.if-is_at.true

pub returns-clause-items : goal.returns-clause-items
returns-clause-items c = c.insert.ensures.items ∙ cond-true _ _ _ (c.insert.ensures.succeeds c.requires.room)
    ∙ put_new c.args.row.now.items c.as_slice.result.now c.as_slice-2.result.now c.place_of-at.result c.args.put.block c.is_at.result (record { first = c.as_slice.ensures.value; second = c.as_slice-2.ensures.value; rising = c.requires.rising; bound = c.place_of-at.ensures.bound; below = c.place_of-at.ensures.below; above = c.place_of-at.ensures.above; there = c.is_at.ensures.there; other = c.is_at.ensures.other }) c.args.put refl c.if-is_at.false
