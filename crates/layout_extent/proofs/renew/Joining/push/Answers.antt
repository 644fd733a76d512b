use Rattle.std.proofs.Common.{◌≡◌, ◌+◌, ◌≤◌, ◌++◌, Some, cond, sym, ap, ◌∙◌, refl, arith, rules, tests}
use Rattle.base_types.specs.Runs.{blocks_from}
use Rattle.layout_extent.specs.declared.renew.Joining.{Joining}
use Rattle.layout_extent.specs.Next.{next_number, goes_on}
use Rattle.layout_extent.specs.Runs.{stretches}
use Rattle.layout_extent.proofs.Count.{stretches_run}
use Rattle.layout_extent.proofs.Renewed.{joined_run, one_begins, none_begins}
use Rattle.layout_extent.proofs.renew.Joining.push.Goals as goal
use Rattle.layout_extent.proofs.renew.Joining.push.Goals.{then-not-goes_on, else-not-goes_on, then-self-le-MOST_STRETCHES, else-self-le-MOST_STRETCHES}

pub add-requires-clause-room : goal.add-requires-clause-room
add-requires-clause-room c =
    let old = c.args.self.now in
    let x = c.args.run.first in
    let n = c.args.run.count in
    let xs = c.requires.holds.0 in
    let is = c.requires.holds.1 in
    let runs : c.if-not-goes_on.self.runs ≡ old.runs + cond c.goes_on.result 0 1 =
    elim c.if-not-goes_on.branch [
      | then-not-goes_on w ↦ ap (λ (j : Joining). j.runs) w.self-is ∙ one_begins old.runs c.goes_on.result (search (rules, tests))
      | else-not-goes_on w ↦ ap (λ (j : Joining). j.runs) w.self-is ∙ none_begins old.runs c.goes_on.result (search (rules, tests))
    ] in
    let kept : c.if-not-goes_on.self.kept ≡ old.kept =
    elim c.if-not-goes_on.branch [ then-not-goes_on w ↦ ap (λ (j : Joining). j.kept) w.self-is | else-not-goes_on w ↦ ap (λ (j : Joining). j.kept) w.self-is ] in
    let total : stretches (c.if-not-goes_on.self.kept ++ blocks_from x n) ≡ c.if-not-goes_on.self.runs =
    ap (λ ys. stretches (ys ++ blocks_from x n)) (kept ∙ is.kept (omega (arith, runs, c.if-self-le-MOST_STRETCHES.true)))
    ∙ stretches_run xs x n c.requires.some
    ∙ ap (λ k. k + cond (goes_on (next_number xs) x) 0 1) (sym is.runs)
    ∙ ap (λ o. old.runs + cond (goes_on o x) 0 1) (sym is.next)
    ∙ ap (λ t. old.runs + cond t 0 1) (sym c.goes_on.ensures)
    ∙ sym runs in
    omega (arith, total, c.if-self-le-MOST_STRETCHES.true)

pub returns-clause-holds : goal.returns-clause-holds
returns-clause-holds c xs is =
    let old = c.args.self.now in
    let x = c.args.run.first in
    let n = c.args.run.count in
    let runs : c.if-not-goes_on.self.runs ≡ old.runs + cond c.goes_on.result 0 1 =
    elim c.if-not-goes_on.branch [
      | then-not-goes_on w ↦ ap (λ (j : Joining). j.runs) w.self-is ∙ one_begins old.runs c.goes_on.result (search (rules, tests))
      | else-not-goes_on w ↦ ap (λ (j : Joining). j.runs) w.self-is ∙ none_begins old.runs c.goes_on.result (search (rules, tests))
    ] in
    let kept : c.if-not-goes_on.self.kept ≡ old.kept =
    elim c.if-not-goes_on.branch [ then-not-goes_on w ↦ ap (λ (j : Joining). j.kept) w.self-is | else-not-goes_on w ↦ ap (λ (j : Joining). j.kept) w.self-is ] in
    let same : c.if-self-le-MOST_STRETCHES.self.runs ≡ c.if-not-goes_on.self.runs =
    elim c.if-self-le-MOST_STRETCHES.branch [
      | then-self-le-MOST_STRETCHES w ↦ ap (λ (j : Joining). j.runs) w.self-is
      | else-self-le-MOST_STRETCHES w ↦ ap (λ (j : Joining). j.runs) w.self-is
    ] in
    let more : c.if-self-le-MOST_STRETCHES.self.runs ≤ 60 → c.if-self-le-MOST_STRETCHES.self.kept ≡ old.kept ++ blocks_from x n =
    elim c.if-self-le-MOST_STRETCHES.branch [
      | then-self-le-MOST_STRETCHES w ↦ (λ few. ap (λ (j : Joining). j.kept) w.self-is ∙ w.add.ensures ∙ ap (λ ys. ys ++ blocks_from x n) kept)
      | else-self-le-MOST_STRETCHES w ↦ (λ few. absurd (omega (arith, few, same, w.if-self-le-MOST_STRETCHES.false)))
    ] in
    joined_run old (record { kept = c.if-self-le-MOST_STRETCHES.self.kept; runs = c.if-self-le-MOST_STRETCHES.self.runs; next = Some (x + n) }) x n xs c.requires.some
    (same ∙ runs ∙ ap (λ t. old.runs + cond t 0 1) c.goes_on.ensures) refl more is
