use Rattle.engine_store.proofs.Mounts.{holds_last}
use Rattle.engine_store.proofs.store.Store.into_disk.Goals as goal

pub returns-clause-last : goal.returns-clause-last
returns-clause-last g c = λ tells going idle. holds_last c.args.self.parts (g.D.Disk.state c.args.self.disk) c.args.self.ticks c.args.self.kept.size idle ((c.args.self.told tells c.args.self.ticks).issued going)
