-- The search goes on behind a block whose nodes are all in use.
use Rattle.std.proofs.Common.{IsTrue, rules, arith}
use Rattle.engine_blocks.specs.State.{State}
use Rattle.fs_files.specs.Calls.{AreUsed}
use Rattle.fs_files.specs.Drafts.{drafted}
use Rattle.fs_files.proofs.calling.Unused.{before_end, seen_more}
use Rattle.fs_files.proofs.unused.least_unused.Goals as goal

pub loop-number-preserved : goal.loop-number-preserved
loop-number-preserved g c =
    let t : State = g.S.Blocks.state c.loop-number.blocks in
    let used : IsTrue g.S.Blocks.tells → AreUsed t.books.geom (drafted c.args.draft.now t.map) c.loop-number.number c.block_end-number.result = search rules in
    seen_more g.S.Blocks.tells (g.S.Blocks.state c.args.blocks.now) t (g.S.Blocks.state c.unused_in_block.new.blocks) c.args.draft.now c.args.from c.loop-number.number c.block_end-number.result
    c.loop-number.invariant (omega (arith, c.block_end-number.ensures, before_end c.layout-layout.result c.loop-number.number (omega (arith, c.requires.above_zero, c.loop-number.invariant.low)))) c.in_ok-found.ensures.looks used
