use Rattle.std.proofs.Common.{◌≡◌, ◌+◌, ◌-◌, ◌<◌, ◌≤◌, ◌++◌, ℕ, List, length, get_or, drop, sym, ap, subst, ◌∙◌, append_assoc, arith}
use Rattle.std.proofs.lemmas.List.{append-nil}
use Rattle.base_types.specs.declared.places.Run.{Run}
use Rattle.base_types.specs.Runs.{blocks_from, run_places}
use Rattle.layout_extent.specs.declared.renew.Joining.{Joining}
use Rattle.layout_extent.specs.Renew.{IsJoined}
use Rattle.layout_extent.proofs.Renewed.{behind_more}
use Rattle.layout_extent.proofs.renew.Joining.push_behind.Goals as goal
use Rattle.layout_extent.proofs.renew.Joining.push_behind.Goals.{then-left-run, else-left-run}

pub loop-run-preserved : goal.loop-run-preserved
loop-run-preserved c =
    let rs = c.args.runs.now in
    let i = c.loop-run.run-index in
    let left = c.loop-run.left in
    let d : Run = record { first = 0; count = 0 } in
    let r = get_or rs i d in
    let more : i < length rs = omega (arith, c.loop-run-test.true, c.loop-run.auto.run-index-end) in
    let rest = drop c.saturating_sub-left.result (run_places (drop (i + 1) rs)) in
    let cut : drop left (run_places (drop i rs)) ≡ blocks_from (r.first + left) (r.count - left) ++ rest =
    behind_more rs i left d more ∙ ap (λ n. blocks_from (r.first + left) (r.count - left) ++ drop n (run_places (drop (i + 1) rs))) (sym c.saturating_sub-left.ensures) in
    let joined : (ys : List ℕ) → IsJoined c.loop-run.self ys → IsJoined c.if-left-run.self (ys ++ blocks_from (r.first + left) (r.count - left)) =
    elim c.if-left-run.branch [
      | then-left-run w ↦ (λ ys is. subst (λ (j : Joining). IsJoined j (ys ++ blocks_from (r.first + left) (r.count - left))) (sym w.self-is) (w.push.ensures.holds ys is))
      | else-left-run w ↦ (λ ys is. subst (λ (j : Joining). IsJoined j (ys ++ blocks_from (r.first + left) (r.count - left))) (sym w.self-is)
          (subst (IsJoined c.loop-run.self) (sym (ap (λ n. ys ++ blocks_from (r.first + left) n) {x = r.count - left} {y = 0} (omega (arith, w.if-left-run.false)) ∙ append-nil ys)) is))
    ] in
    let most : c.if-left-run.self.runs ≤ c.loop-run.self.runs + 1 =
    elim c.if-left-run.branch [
      | then-left-run w ↦ omega (arith, w.push.ensures.few, ap (λ (j : Joining). j.runs) w.self-is)
      | else-left-run w ↦ omega (arith, ap (λ (j : Joining). j.runs) w.self-is)
    ] in (
      (λ xs is. let p = c.loop-run.invariant.0 xs is in (
        p.0 ++ blocks_from (r.first + left) (r.count - left),
        joined p.0 p.1,
        append_assoc p.0 (blocks_from (r.first + left) (r.count - left)) rest ∙ ap (λ zs. p.0 ++ zs) (sym cut) ∙ p.2,
      )),
      omega (arith, most, c.loop-run.invariant.1),
    )
