use Rattle.std.proofs.Math.Logic.{∥∥₁_map}
use Rattle.fs_log.proofs.Leaving.{stands_for_log}
use Rattle.fs_log.proofs.laws.each_crash_leaves_a_former_log.Goals as goal

pub returns : goal.returns
returns g c = λ old new h k n img goes view left. ∥∥₁_map (goes.crashes img left) (stands_for_log n (g.S.Blocks.state new) h k img view)
