use Rattle.engine_store.specs.Told.{store_state}
use Rattle.engine_store.proofs.Freeing.{ends_frees, on_ok}
use Rattle.engine_store.proofs.store.StoreBlocks.dsync.Goals as goal

pub invariant_of-self : goal.invariant_of-self
invariant_of-self g c = record {
  kept = c.sync_durably.ensures.kept;
  sound = c.a_store_that_is_kept_is_told.ensures.sound g.D.Disk.tells c.sync_durably.new.parts (g.D.Disk.state c.sync_durably.new.disk) (c.sync_durably.ensures.kept);
  told = λ on ticks. c.a_store_that_is_kept_is_told.ensures.told g.D.Disk.tells c.sync_durably.new.parts ticks (g.D.Disk.state c.sync_durably.new.disk) (c.sync_durably.ensures.kept) on;
}

pub returns-clause-syncs : goal.returns-clause-syncs
returns-clause-syncs g c = c.sync_durably.ensures.syncs c.args.self.now.ticks

pub returns-clause-waits : goal.returns-clause-waits
returns-clause-waits g c = c.sync_durably.ensures.waits c.args.self.now.ticks

pub returns-clause-idles : goal.returns-clause-idles
returns-clause-idles g c = c.sync_durably.ensures.idles c.args.self.now.ticks

pub returns-clause-written : goal.returns-clause-written
returns-clause-written g c = c.sync_durably.ensures.written c.args.self.now.ticks

pub returns-clause-frees : goal.returns-clause-frees
returns-clause-frees g c = λ tells. on_ok c.sync_durably.result c.sync_durably.ensures.frees (ends_frees (store_state c.args.self.now.parts c.args.self.now.ticks (g.D.Disk.state c.args.self.now.disk)) (store_state c.sync_durably.new.parts c.args.self.now.ticks (g.D.Disk.state c.sync_durably.new.disk)))
