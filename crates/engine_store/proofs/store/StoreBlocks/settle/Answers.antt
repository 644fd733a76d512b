use Rattle.engine_store.proofs.store.StoreBlocks.settle.Goals as goal

pub invariant_of-self : goal.invariant_of-self
invariant_of-self g c = record {
  kept = c.drain.ensures.kept;
  sound = c.a_store_that_is_kept_is_told.ensures.sound g.D.Disk.tells c.drain.new.parts (g.D.Disk.state c.drain.new.disk) (c.drain.ensures.kept);
  told = λ on ticks. c.a_store_that_is_kept_is_told.ensures.told g.D.Disk.tells c.drain.new.parts ticks (g.D.Disk.state c.drain.new.disk) (c.drain.ensures.kept) on;
}

pub returns-clause-moves : goal.returns-clause-moves
returns-clause-moves g c = c.drain.ensures.runs c.args.self.now.ticks _

pub returns-clause-ticks : goal.returns-clause-ticks
returns-clause-ticks g c = c.drain.ensures.asks c.args.self.now.ticks
