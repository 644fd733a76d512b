use Rattle.std.proofs.Common.{refl, ap}
use Rattle.engine_blocks.specs.State.{Bookkeeping}
use Rattle.engine_store.proofs.StoreStates.{books_awaits, books_session}
use Rattle.engine_store.proofs.store.StoreBlocks.take.Goals as goal

pub invariant_of-self : goal.invariant_of-self
invariant_of-self g c = record {
  kept = c.take.ensures.keeps g.D.Disk.tells (g.D.Disk.state c.args.self.now.disk) c.args.self.now.kept;
  sound = c.a_store_that_is_kept_is_told.ensures.sound g.D.Disk.tells c.take.new.parts (g.D.Disk.state c.args.self.now.disk) (c.take.ensures.keeps g.D.Disk.tells (g.D.Disk.state c.args.self.now.disk) c.args.self.now.kept);
  told = λ on ticks. c.a_store_that_is_kept_is_told.ensures.told g.D.Disk.tells c.take.new.parts ticks (g.D.Disk.state c.args.self.now.disk) (c.take.ensures.keeps g.D.Disk.tells (g.D.Disk.state c.args.self.now.disk) c.args.self.now.kept) on;
}

pub returns-clause-map : goal.returns-clause-map
returns-clause-map g c = λ on. c.take.ensures.map g.D.Disk.tells (g.D.Disk.state c.args.self.now.disk) c.args.self.now.kept on

pub returns-clause-disk : goal.returns-clause-disk
returns-clause-disk g c = record {
  counts = refl;
  crash = λ on. c.a_store_that_is_kept_is_told.ensures.nothing c.args.self.now.parts c.take.new.parts _ _ (g.D.Disk.state c.args.self.now.disk) (g.D.Disk.state c.args.self.now.disk) (books_session c.args.self.now.parts c.take.new.parts c.take.ensures.rest (ap (λ (k : Bookkeeping). k.geom) c.take.ensures.books)) (books_awaits c.args.self.now.parts c.take.new.parts c.take.ensures.rest) refl refl;
}
