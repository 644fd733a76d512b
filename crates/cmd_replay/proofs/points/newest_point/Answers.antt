-- What the search among the last points finds is the newest of all; and where these are all of them, it is so if it finds none.
use Rattle.std.proofs.Common.{◌≡◌, ◌∙◌, ◌⊎◌, inl, inr, ℕ, ◌≤◌, true, List, Option, None, Some, is_some, rules, sym, subst, arith}
use Rattle.std.proofs.lemmas.Bool.{true≢false}
use Rattle.lang_tree.specs.Points.{Point}
use Rattle.lang_tree.specs.Tree.{Tree}
use Rattle.cmd_replay.specs.Newest.{IsNewest}
use Rattle.cmd_replay.specs.Points.{floor_at, points_in}
use Rattle.cmd_replay.specs.Walking.{IsListedAs}
use Rattle.cmd_replay.proofs.points.newest_point.Goals.{then-is_some-via-then-is_some, then-is_some-via-else-is_some+then-late-floor}
use Rattle.cmd_replay.proofs.points.newest_point.Goals as goal

newest_of_all : (P : Tree → Type 0) (points : List Point) (low late high : ℕ) (found : Option ℕ) → low ≤ late → (is_some found ≡ true) ⊎ (late ≤ low)
    → IsNewest P points late high found → IsNewest P points low high found
newest_of_all P points low late high None behind (inl some) none = absurd (true≢false (sym some))
newest_of_all P points low late high None behind (inr all) none = λ p from upto such. none p (omega (arith, from, all)) upto such
newest_of_all P points low late high (Some p) behind either one = (omega (arith, behind, one.0), one.1, one.2, one.3)

pub returns-then-is_some : goal.returns-then-is_some
returns-then-is_some c =
    let P : Tree → Type 0 = IsListedAs c.args.text.now in
    let points = points_in c.args.trace.now in
    let low = floor_at c.args.moment c.args.trace.now in
    let late = c.max-late.result in
    let found = c.in_ok-at_last.at_last.newest in
    let floor : c.floor_by-floor.result ≡ low = search rules in
    let behind : low ≤ late = omega (arith, floor, c.max-late.ensures) in
    let one : IsNewest P points late c.in_ok-at_last.at_last.last found = c.in_ok-at_last.ensures.1 in
    let high = c.in_ok-at_last.ensures.0 in
    let either : (is_some found ≡ true) ⊎ (late ≤ low) = elim c.then-is_some.branch [
      | then-is_some-via-then-is_some w ↦ inl (sym c.is_some.ensures ∙ w.if-is_some.true)
      | then-is_some-via-else-is_some+then-late-floor w ↦ inr (omega (arith, floor, w.if-late-floor.true))
    ] in
    subst (λ (h : ℕ). IsNewest P points low h found) high (newest_of_all P points low late c.in_ok-at_last.at_last.last found behind either one)
