use Rattle.std.proofs.Common.{◌+◌, ◌∙◌, sym, refl, true≢false}
use Rattle.fs_memtree.proofs.rows.Row.{thing_same, rows_same}
use Rattle.fs_memtree.proofs.nodes.are_same.Goals as goal

pub returns-then-not-is_same : goal.returns-then-not-is_same
returns-then-not-is_same c = (
  λ e. absurd (true≢false (sym e)),
  λ same. sym c.if-not-is_same.true ∙ c.is_same.ensures.1 (c.stands_at.ensures ∙ thing_same c.args.left.now c.args.right.now (c.loop-index.index + 1) same ∙ sym c.stands_at-in-loop-index.ensures),
)

pub returns : goal.returns
returns c = (λ e. rows_same c.args.left.now c.args.right.now c.max-index-end.result c.loop-index.index c.max-index-end.ensures c.loop-index-test.false c.loop-index.invariant, λ same. refl)
