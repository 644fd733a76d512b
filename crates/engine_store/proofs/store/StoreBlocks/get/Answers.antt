use Rattle.std.proofs.Common.{ap, ℕ, ap₂}
use Rattle.engine_store.specs.declared.parts.StoreParts.{StoreParts}
use Rattle.disk_contract.specs.Manner.{Manner}
use Rattle.engine_store.proofs.store.StoreBlocks.get.Goals as goal

pub invariant_of-self : goal.invariant_of-self
invariant_of-self g c = record {
  kept = c.read_block.ensures.kept;
  sound = c.a_store_that_is_kept_is_told.ensures.sound g.D.Disk.tells c.read_block.new.parts (g.D.Disk.state c.read_block.new.disk) (c.read_block.ensures.kept);
  told = λ on ticks. c.a_store_that_is_kept_is_told.ensures.told g.D.Disk.tells c.read_block.new.parts ticks (g.D.Disk.state c.read_block.new.disk) (c.read_block.ensures.kept) on;
}

pub returns-clause-crash : goal.returns-clause-crash
returns-clause-crash g c = λ on. c.a_store_that_is_kept_is_told.ensures.nothing c.args.self.now.parts c.read_block.new.parts _ _ (g.D.Disk.state c.args.self.now.disk) (g.D.Disk.state c.read_block.new.disk)
    (record { geom = ap (λ (x : StoreParts). x.books.geom) c.read_block.ensures.parts; epoch = ap (λ (x : StoreParts). x.pipeline.header.epoch) c.read_block.ensures.parts; mounted = ap (λ (x : StoreParts). x.mounted) c.read_block.ensures.parts; first = ap (λ (x : StoreParts). x.first) c.read_block.ensures.parts })
    (record { stopped = ap (λ (x : StoreParts). x.stopped) c.read_block.ensures.parts; first = ap (λ (x : StoreParts). x.first) c.read_block.ensures.parts; committed = ap (λ (x : StoreParts). x.pipeline.committed.items) c.read_block.ensures.parts }) c.read_block.ensures.spends.same.base (c.read_block.ensures.log on)

pub returns-clause-counts : goal.returns-clause-counts
returns-clause-counts g c =
    let spent = c.read_block.ensures.spends in
    record { read_faults = spent.read_faults; faults = spent.faults; waits = spent.waits; ticks = ap₂ (λ (n : ℕ) (m : Manner). record { made = c.args.self.now.ticks; polls = n; manner = m }) spent.polls spent.same.manner }
