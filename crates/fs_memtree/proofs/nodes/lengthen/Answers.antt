use Rattle.std.proofs.Common.{◌≡◌, ◌∙◌, ◌+◌, List, [], ◌∷◌, ◌++◌, length, Option, None, ap, sym, subst, arith}
use Rattle.std.proofs.lemmas.List.{length-append}
use Rattle.fs_memtree.specs.declared.node.Node.{Node}
use Rattle.fs_memtree.specs.Stored.{nodes_of, things, AreUnused}
use Rattle.fs_memtree.proofs.rows.Row.{nodes_gap, unused_gap}
use Rattle.fs_memtree.proofs.nodes.lengthen.Goals as goal

pub returns-in_err-reserve-clause-nodes : goal.returns-in_err-reserve-clause-nodes
returns-in_err-reserve-clause-nodes c = ap nodes_of c.reserve.ensures.items ∙ c.loop-index.invariant.2

pub returns-in_err-reserve-clause-unused : goal.returns-in_err-reserve-clause-unused
returns-in_err-reserve-clause-unused c = subst (λ (row : List (Option Node)). AreUnused c.loop-index.unused (things row)) (sym c.reserve.ensures.items) c.loop-index.invariant.3

pub loop-index-preserved : goal.loop-index-preserved
loop-index-preserved c =
    let row = c.loop-index.row.items in
    let last : c.loop-index.index + 1 ≡ length row + 1 = omega (arith, c.loop-index.invariant.0) in
    let pushed : c.push_reserved.new.self.items ≡ row ++ None ∷ [] = c.push_reserved.ensures.items ∙ ap (λ (items : List (Option Node)). items ++ None ∷ []) c.reserve.ensures.items in (
      omega (arith, ap length pushed, length-append row (None ∷ []), c.loop-index.invariant.0),
      omega (arith, c.loop-index-test.true),
      nodes_gap row c.push_reserved.new.self.items (c.loop-index.index + 1) pushed last ∙ c.loop-index.invariant.2,
      unused_gap c.loop-index.unused c.insert.new.self row c.push_reserved.new.self.items (c.loop-index.index + 1) pushed last c.loop-index.invariant.3 c.in_ok-insert.ensures.updates.0,
    )
