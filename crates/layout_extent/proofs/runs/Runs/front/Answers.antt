use Rattle.std.proofs.Common.{◌≡◌, ◌≤◌, length, take, sym, ap, subst, ◌∙◌, arith}
use Rattle.base_types.specs.Runs.{run_places}
use Rattle.layout_extent.specs.Runs.{AreTidy, LieBelow, most_blocks}
use Rattle.layout_extent.proofs.Cut.{cut_runs, cut_places, cut_tidy, cut_below, kept_all}
use Rattle.layout_extent.proofs.runs.Runs.front.Goals as goal

pub invariant_of-result : goal.invariant_of-result
invariant_of-result c =
    let rs = c.as_slice-run-items.result.now in
    let end : length rs ≤ c.loop-run.run-index = omega (arith, c.loop-run-test.false) in
    let is : c.loop-run.kept ≡ cut_runs c.args.count c.self.inside.list =
    kept_all c.loop-run.kept rs c.loop-run.left c.loop-run.run-index c.args.count end c.loop-run.invariant.0 ∙ ap (cut_runs c.args.count) c.as_slice-run-items.ensures.value in (
      subst AreTidy (sym is) (cut_tidy c.args.count c.self.inside.list c.self.invariant.0),
      subst (LieBelow most_blocks) (sym is) (cut_below most_blocks c.args.count c.self.inside.list c.self.invariant.1),
    )

pub returns : goal.returns
returns c =
    let rs = c.as_slice-run-items.result.now in
    let end : length rs ≤ c.loop-run.run-index = omega (arith, c.loop-run-test.false) in
    ap run_places (kept_all c.loop-run.kept rs c.loop-run.left c.loop-run.run-index c.args.count end c.loop-run.invariant.0)
    ∙ cut_places c.args.count rs
    ∙ ap (take c.args.count) (ap run_places c.as_slice-run-items.ensures.value ∙ c.self.view_is)
