use Rattle.std.proofs.Common.{◌≡◌, ◌<◌, length, ap, sym, subst, ◌∙◌, List, ℕ, ◌+◌, arith}
use Rattle.std.proofs.lemmas.List.{with_items_is}
use Rattle.std.specs.Prelude.{slice_index}
use Rattle.disk_memory.specs.Ranks.{RanksState, with_next}
use Rattle.disk_memory.specs.Counts.{IsKept, marked}
use Rattle.disk_memory.proofs.count_trees.Kept.{kept_joined}
use Rattle.disk_memory.proofs.count_trees.Marks.{marked_next}
use Rattle.disk_memory.proofs.ranks.Ranks.join.Goals as goal

pub invariant_of-self : goal.invariant_of-self
invariant_of-self c =
    let r = c.self.inside in
    let new = c.set_leaf.new.counts in
    let some : r.joined < r.most = subst (λ (s : RanksState). s.joined < s.most) (sym c.self.view_is) c.requires in
    let old : c.as_mut_slice.result.now ≡ r.counts.items = c.as_mut_slice.ensures.value in
    let long : length new ≡ length r.counts.items = c.set_leaf.ensures.length ∙ ap length old in
    let is = with_items_is r.counts new (omega (arith, long, r.counts.ok)) in
    subst (λ xs. IsKept xs r.size (r.joined + 1) r.most) (sym is)
    (kept_joined r.counts.items new r.size r.joined r.most c.self.invariant some long c.set_leaf.ensures.sums c.set_leaf.ensures.leaf
    (λ n apart. c.set_leaf.ensures.others n apart ∙ ap (λ xs. slice_index xs (r.size + n)) old)
    (λ p. omega (arith, c.set_leaf.ensures.close p, ap (λ xs. slice_index xs p) old)))

pub returns-clause-state : goal.returns-clause-state
returns-clause-state c =
    let r = c.self.inside in
    let new = c.set_leaf.new.counts in
    let old : c.as_mut_slice.result.now ≡ r.counts.items = c.as_mut_slice.ensures.value in
    let long : length new ≡ length r.counts.items = c.set_leaf.ensures.length ∙ ap length old in
    let is = with_items_is r.counts new (omega (arith, long, r.counts.ok)) in
    let state : List ℕ → RanksState = λ members. record { members = members; joined = r.joined + 1; most = r.most } in
    ap (λ xs. state (marked xs r.size (r.joined + 1))) is
    ∙ ap state (marked_next r.counts.items new r.size r.joined (λ n apart. c.set_leaf.ensures.others n apart ∙ ap (λ xs. slice_index xs (r.size + n)) old) c.set_leaf.ensures.leaf)
    ∙ ap with_next c.self.view_is
