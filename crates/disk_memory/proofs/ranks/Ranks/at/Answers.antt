use Rattle.std.proofs.Common.{length, ap, sym, ◌∙◌, ◌+◌, arith}
use Rattle.std.specs.Prelude.{slice_get, slice_index}
use Rattle.disk_memory.specs.Ranks.{RanksState}
use Rattle.disk_memory.specs.Counts.{sum_from}
use Rattle.disk_memory.proofs.count_trees.Kept.{root_is, member_at, leaf_below}
use Rattle.disk_memory.proofs.ranks.Ranks.at.Goals as goal

pub leaf_at-leaf-requires-clause-more : goal.leaf_at-leaf-requires-clause-more
leaf_at-leaf-requires-clause-more c =
    let all = root_is _ _ _ _ c.self.invariant ∙ ap (λ (s : RanksState). length s.members) c.self.view_is ∙ sym c.len-count.ensures in
    omega (arith, all, ap (λ xs. slice_index xs 1) c.as_slice.ensures.value)

pub overflow_cast-result : goal.overflow_cast-result
overflow_cast-result c =
    let on = sym (ap (λ xs. slice_index xs (c.self.inside.size + c.leaf_at-leaf.result)) c.as_slice.ensures.value) ∙ c.leaf_at-leaf.ensures.marked in
    let below = leaf_below _ _ _ _ c.leaf_at-leaf.result c.self.invariant on in
    omega (arith, below, c.self.invariant.few, c.self.invariant.short)

pub overflow_add-result : goal.overflow_add-result
overflow_add-result c =
    let on = sym (ap (λ xs. slice_index xs (c.self.inside.size + c.leaf_at-leaf.result)) c.as_slice.ensures.value) ∙ c.leaf_at-leaf.ensures.marked in
    let below = leaf_below _ _ _ _ c.leaf_at-leaf.result c.self.invariant on in
    omega (arith, below, c.self.invariant.few, c.self.invariant.short)

pub returns : goal.returns
returns c =
    let on = sym (ap (λ xs. slice_index xs (c.self.inside.size + c.leaf_at-leaf.result)) c.as_slice.ensures.value) ∙ c.leaf_at-leaf.ensures.marked in
    let before = sym (ap (λ xs. sum_from xs c.self.inside.size c.leaf_at-leaf.result) c.as_slice.ensures.value) ∙ c.leaf_at-leaf.ensures.before in
    member_at _ _ _ _ c.leaf_at-leaf.result c.args.place c.self.invariant on before ∙ ap (λ (s : RanksState). slice_get s.members c.args.place) c.self.view_is
