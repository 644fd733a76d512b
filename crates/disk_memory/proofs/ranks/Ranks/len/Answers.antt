use Rattle.std.proofs.Common.{◌<◌, ap, length, ◌∙◌, arith}
use Rattle.std.proofs.lemmas.List.{get_or_default}
use Rattle.disk_memory.specs.Ranks.{RanksState}
use Rattle.disk_memory.proofs.count_trees.Kept.{some_leaf, root_is}
use Rattle.disk_memory.proofs.ranks.Ranks.len.Goals as goal

pub index-requires : goal.index-requires
index-requires c = omega (arith, some_leaf _ _ _ _ c.self.invariant, c.self.inside.counts.ok)

pub returns : goal.returns
returns c =
    let inside : 1 < length c.self.inside.counts.items = omega (arith, some_leaf _ _ _ _ c.self.invariant) in
    c.index.ensures ∙ get_or_default c.self.inside.counts.items 1 _ 0 inside ∙ root_is _ _ _ _ c.self.invariant ∙ ap (λ (s : RanksState). length s.members) c.self.view_is
