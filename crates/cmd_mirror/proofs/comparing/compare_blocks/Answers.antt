use Rattle.std.proofs.Common.{arith, refl}
use Rattle.cmd_mirror.proofs.Readings.{compared, none_yet, one_more}
use Rattle.cmd_mirror.proofs.comparing.compare_blocks.Goals as goal

pub loop-b-init : goal.loop-b-init
loop-b-init g c = none_yet g.D.Disk.tells (g.D.Disk.state c.args.first.now) (g.D.Disk.state c.args.second.now)

pub loop-b-preserved : goal.loop-b-preserved
loop-b-preserved g c = one_more g.D.Disk.tells c.loop-b.b c.loop-b.alike c.in_ok-same.same _ (g.D.Disk.state c.args.first.now) (g.D.Disk.state c.loop-b.first) (g.D.Disk.state c.is_same_block.new.first)
    (g.D.Disk.state c.args.second.now) (g.D.Disk.state c.loop-b.second) (g.D.Disk.state c.is_same_block.new.second) refl (omega (arith, c.loop-b-test.true, c.blocks-b-end.ensures)) c.loop-b.invariant c.in_ok-same.ensures

pub returns : goal.returns
returns g c = compared g.D.Disk.tells c.loop-b.b c.loop-b.alike (g.D.Disk.state c.args.first.now) (g.D.Disk.state c.loop-b.first) (g.D.Disk.state c.args.second.now) (g.D.Disk.state c.loop-b.second) c.requires.size
    (omega (arith, c.loop-b-test.false, c.loop-b.auto.b-end, c.blocks-b-end.ensures)) c.loop-b.invariant
