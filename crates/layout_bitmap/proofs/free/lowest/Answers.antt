-- Each turn finds the next free block, and the search ends where no room or no free block is left.
use Rattle.std.proofs.Common.{arith}
use Rattle.base_types.specs.Seal.{blocks_of}
use Rattle.layout_bitmap.proofs.Counts.{found_more, found_full, found_last}
use Rattle.layout_bitmap.proofs.free.lowest.Goals as goal

pub returns-then-block-end-clause-count : goal.returns-then-block-end-clause-count
returns-then-block-end-clause-count c = (found_last _ (blocks_of c.args.map.now) _ _ _ _ c.loop-count.invariant
    (λ k from below. c.next_clear-block.ensures.before k from (omega (arith, below, c.if-block-end.true, c.n-end.ensures)))).count_is

pub returns-then-block-end-clause-found : goal.returns-then-block-end-clause-found
returns-then-block-end-clause-found c = (found_last _ (blocks_of c.args.map.now) _ _ _ _ c.loop-count.invariant
    (λ k from below. c.next_clear-block.ensures.before k from (omega (arith, below, c.if-block-end.true, c.n-end.ensures)))).front_is

pub loop-count-preserved : goal.loop-count-preserved
loop-count-preserved c =
    found_more _ (blocks_of c.args.map.now) _ _ _ _ c.next_clear-block.result c.loop-count.invariant c.loop-count-test.true c.next_clear-block.ensures.low
    (omega (arith, c.if-block-end.false, c.n-end.ensures)) c.next_clear-block.ensures.before (c.next_clear-block.ensures.here c.if-block-end.false)

pub returns-clause-count : goal.returns-clause-count
returns-clause-count c = (found_full _ (blocks_of c.args.map.now) _ _ _ _ c.loop-count.invariant c.loop-count-test.false).count_is

pub returns-clause-found : goal.returns-clause-found
returns-clause-found c = (found_full _ (blocks_of c.args.map.now) _ _ _ _ c.loop-count.invariant c.loop-count-test.false).front_is
