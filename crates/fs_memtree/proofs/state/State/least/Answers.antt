use Rattle.std.proofs.Common.{◌∙◌, sym}
use Rattle.fs_memtree.proofs.serving.Snapped.{least_alone, least_found, least_none}
use Rattle.fs_memtree.proofs.state.State.least.Goals as goal

pub returns-then-is_empty : goal.returns-then-is_empty
returns-then-is_empty c =
    let s = c.args.self.now in
    c.unused.ensures ∙ least_alone s.limit s.nodes s.kept (c.is_empty.ensures.0 c.if-is_empty.true)

pub returns-then-is_unused : goal.returns-then-is_unused
returns-then-is_unused c =
    let s = c.args.self.now in
    least_found s.limit c.loop-used.used s.nodes s.kept c.loop-used-test.true c.loop-used.invariant (sym c.is_unused.ensures ∙ c.if-is_unused.true)

pub returns : goal.returns
returns c =
    let s = c.args.self.now in
    least_none s.limit c.loop-used.used s.nodes s.kept c.loop-used-test.false c.loop-used.invariant
