use Rattle.std.proofs.Common.{◌≡◌, ◌≤◌, length, drop, sym, ap, subst, ◌∙◌, arith}
use Rattle.base_types.specs.Runs.{run_places}
use Rattle.layout_extent.specs.Runs.{AreTidy, LieBelow, most_blocks, runs_of}
use Rattle.fs_files.proofs.Behind.{behind_places, behind_tidy, behind_below, behind_all}
use Rattle.fs_files.proofs.part.behind.Goals as goal

pub of-requires-clause-tidy : goal.of-requires-clause-tidy
of-requires-clause-tidy c =
    let rs = c.as_slice-run-items.result.now in
    let end : length rs ≤ c.loop-run.run-index = omega (arith, c.loop-run-test.false) in
    let list : rs ≡ runs_of c.args.places.now = c.as_slice-run-items.ensures.value ∙ c.list.ensures.value in
    subst AreTidy (sym (behind_all c.loop-run.rest rs c.loop-run.left c.loop-run.run-index c.args.count end c.loop-run.invariant.0))
    (behind_tidy c.args.count rs (subst AreTidy (sym list) (c.a_list_has_its_runs.ensures.tidy c.args.places.now)))

pub of-requires-clause-below : goal.of-requires-clause-below
of-requires-clause-below c =
    let rs = c.as_slice-run-items.result.now in
    let end : length rs ≤ c.loop-run.run-index = omega (arith, c.loop-run-test.false) in
    subst (LieBelow most_blocks) (sym (behind_all c.loop-run.rest rs c.loop-run.left c.loop-run.run-index c.args.count end c.loop-run.invariant.0))
    (behind_below most_blocks c.args.count rs (subst (LieBelow most_blocks) (sym c.as_slice-run-items.ensures.value) c.list.ensures.below))

pub returns : goal.returns
returns c =
    let rs = c.as_slice-run-items.result.now in
    let end : length rs ≤ c.loop-run.run-index = omega (arith, c.loop-run-test.false) in
    c.of.ensures
    ∙ ap run_places (behind_all c.loop-run.rest rs c.loop-run.left c.loop-run.run-index c.args.count end c.loop-run.invariant.0)
    ∙ behind_places c.args.count rs
    ∙ ap (λ xs. drop c.args.count (run_places xs)) (c.as_slice-run-items.ensures.value ∙ c.list.ensures.value)
    ∙ ap (drop c.args.count) (c.a_list_has_its_runs.ensures.places c.args.places.now)
