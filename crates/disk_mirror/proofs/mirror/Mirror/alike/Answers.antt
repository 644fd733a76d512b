use Rattle.disk_mirror.proofs.Leaves.{alike_second}
use Rattle.disk_mirror.proofs.mirror.Mirror.alike.Goals as goal

pub returns-clause-second : goal.returns-clause-second
returns-clause-second g c = λ tells. alike_second _ _ _ _ _ _ _ _ _ _ (c.args.self.now.told tells)
