use Rattle.std.proofs.Common.{◌∙◌, ap, sym, Some, refl}
use Rattle.std.proofs.lemmas.Bool.{false≢true}
use Rattle.std.proofs.lemmas.Option.{slice_get_read}
use Rattle.engine_running.specs.declared.put.Put.{Put}
use Rattle.engine_running.proofs.ordering.RowSteps.{found, lacks_at, none_put}
use Rattle.engine_running.proofs.rows.bytes_in.Goals as goal

pub returns-clause-some : goal.returns-clause-some
returns-clause-some c =
    let there = c.is_at.ensures.there c.if-not-is_at.false in
    let is = slice_get_read c.args.row.now _ c.place_of-at.result c.index-row-at.result refl there.0 c.index-row-at.is in
    found c.args.block c.args.row.now c.place_of-at.result c.index-row-at.result is (there.1 c.index-row-at.result is) c.place_of-at.ensures.below ∙ ap Some (sym (c.bytes.ensures.bytes ∙ sym (ap (λ (r : Put). r.bytes) c.index-row-at.is)))

pub returns-then-not-is_at-clause-none : goal.returns-then-not-is_at-clause-none
returns-then-not-is_at-clause-none c = λ e. none_put c.args.block c.args.row.now (lacks_at c.args.block c.args.row.now c.place_of-at.result c.requires c.place_of-at.ensures.below c.place_of-at.ensures.above (λ q is same. false≢true (sym c.if-not-is_at.true ∙ c.is_at.ensures.other q is same)))
