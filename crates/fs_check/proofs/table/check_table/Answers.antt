use Rattle.std.proofs.Common.{◌+◌, IsTrue, refl}
use Rattle.base_types.specs.Layouts.{nodes_before}
use Rattle.fs_check.proofs.sound.Steps.{goes_more}
use Rattle.fs_check.proofs.table.check_table.Goals as goal

pub loop-t-preserved : goal.loop-t-preserved
loop-t-preserved g c =
    goes_more (IsTrue g.S.Blocks.tells) g.S.Blocks.tells c.args.geom.now (g.S.Blocks.state c.args.blocks.now) (g.S.Blocks.state c.loop-t.blocks) (g.S.Blocks.state c.check_block.new.blocks) c.args.bits.now c.args.met.now c.loop-t.met c.check_block.new.met
    c.args.found.now c.loop-t.found c.check_block.new.found 1 (nodes_before c.args.geom.now.layout c.loop-t.t + 1) (nodes_before c.args.geom.now.layout c.loop-t.t + 1) (nodes_before c.args.geom.now.layout (c.loop-t.t + 1) + 1) (nodes_before c.args.geom.now.layout (c.loop-t.t + 1) + 1) (λ q. q) refl refl c.loop-t.invariant
    c.in_ok-check_block.ensures.looks c.in_ok-check_block.ensures.size (λ q here. c.in_ok-check_block.ensures.sound q here)
