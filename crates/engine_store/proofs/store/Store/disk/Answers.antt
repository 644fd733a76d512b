use Rattle.engine_store.proofs.store.Store.disk.Goals as goal

pub returns-clause-size : goal.returns-clause-size
returns-clause-size g c = c.args.self.now.kept.size
