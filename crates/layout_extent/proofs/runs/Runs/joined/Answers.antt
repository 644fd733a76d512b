use Rattle.std.proofs.Common.{◌≡◌, ◌+◌, ◌<◌, ◌≤◌, cond, length, sym, ap, ◌∙◌, arith, rules, tests}
use Rattle.std.proofs.lemmas.List.{append-nil}
use Rattle.layout_extent.specs.Runs.{stretches}
use Rattle.layout_extent.specs.Next.{next_number}
use Rattle.layout_extent.proofs.Count.{tidy_count, runs_more, next_more}
use Rattle.layout_extent.proofs.runs.Runs.joined.Goals as goal
use Rattle.layout_extent.proofs.runs.Runs.joined.Goals.{then-not-goes_on, else-not-goes_on}

pub loop-number-init : goal.loop-number-init
loop-number-init c = (
  ap length c.as_slice.ensures.value ∙ tidy_count c.self.inside.list c.self.invariant.0 ∙ ap stretches (c.self.view_is ∙ sym (append-nil c.args.self.now)),
  c.next-next.ensures ∙ ap next_number (sym (append-nil c.args.self.now)),
  omega (arith, c.as_slice.ensures.few),
)

pub loop-number-preserved : goal.loop-number-preserved
loop-number-preserved c =
    let i = c.loop-number.number-index in
    let more : i < length c.args.list.now = omega (arith, c.loop-number-test.true, c.loop-number.auto.number-index-end) in
    let one : c.if-not-goes_on.runs ≡ c.loop-number.runs + cond c.goes_on.result 0 1 =
    elim c.if-not-goes_on.branch [ then-not-goes_on w ↦ search (rules, tests) | else-not-goes_on w ↦ search (rules, tests) ] in
    let most : c.if-not-goes_on.runs ≤ c.loop-number.runs + 1 =
    elim c.if-not-goes_on.branch [ then-not-goes_on w ↦ omega arith | else-not-goes_on w ↦ omega arith ] in (
      one ∙ runs_more c.args.self.now c.args.list.now i c.loop-number.runs c.loop-number.next c.goes_on.result more c.loop-number.invariant.0 c.loop-number.invariant.1 c.goes_on.ensures,
      next_more c.args.self.now c.args.list.now i more,
      omega (arith, most, c.loop-number.invariant.2),
    )
