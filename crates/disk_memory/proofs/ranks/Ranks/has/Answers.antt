use Rattle.std.proofs.Common.{◌<◌, inl, inr, ◌==◌, length, ap, ◌∙◌, ℕ, ◌+◌, ◌-◌, arith}
use Rattle.std.proofs.lemmas.List.{get_or_default}
use Rattle.disk_memory.specs.Ranks.{is_member}
use Rattle.disk_memory.proofs.count_trees.Kept.{none_joined, joined_one}
use Rattle.disk_memory.proofs.ranks.Ranks.has.Goals as goal

pub returns-then-number-eq0 : goal.returns-then-number-eq0
returns-then-number-eq0 c = none_joined _ _ _ _ c.args.number c.self.invariant (inl c.if-number-eq0.true) ∙ ap (is_member c.args.number) c.self.view_is

pub returns-then-number-self : goal.returns-then-number-self
returns-then-number-self c = none_joined _ _ _ _ c.args.number c.self.invariant (inr (omega arith)) ∙ ap (is_member c.args.number) c.self.view_is

pub returns : goal.returns
returns c =
    let r = c.self.inside in
    let leaf = c.args.number - 1 in
    let inside : r.size + leaf < length r.counts.items = omega (arith, c.self.invariant.few, c.self.invariant.room) in
    ap (λ (k : ℕ). k == 1) (c.index.ensures ∙ get_or_default r.counts.items (r.size + leaf) _ 0 inside)
    ∙ joined_one _ _ _ _ c.args.number leaf c.self.invariant (omega arith) (omega arith) ∙ ap (is_member c.args.number) c.self.view_is
