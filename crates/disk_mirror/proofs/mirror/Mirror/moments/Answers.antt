use Rattle.disk_mirror.proofs.Leaves.{moments_first, moments_second}
use Rattle.disk_mirror.proofs.mirror.Mirror.moments.Goals as goal

pub returns-clause-first : goal.returns-clause-first
returns-clause-first g c = λ tells. moments_first _ _ _ _ _ _ _ _ _ _ (c.args.self.now.told tells)

pub returns-clause-second : goal.returns-clause-second
returns-clause-second g c = λ tells. moments_second _ _ _ _ _ _ _ _ _ _ (c.args.self.now.told tells)
