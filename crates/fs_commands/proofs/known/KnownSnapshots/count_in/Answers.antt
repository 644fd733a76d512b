use Rattle.std.proofs.Common.{arith}
use Rattle.fs_commands.proofs.numbered.Lists.{one_in, uncounted_in}
use Rattle.fs_commands.proofs.known.KnownSnapshots.count_in.Goals as goal

pub loop-b-preserved : goal.loop-b-preserved
loop-b-preserved c = record {
  counts = λ room few once.
      let h = c.loop-b.invariant.counts room few once in
      let low = c.loop-b-test.true in
      one_in c.args.list.now c.loop-b.b-index low once c.args.self.now.counts c.loop-b.self-inside.shared c.add.new.self h
      (c.add.ensures.adds (omega (arith, room c.loop-b.b-index 0 low, h.room)) (omega (arith, few c.loop-b.b-index 0 low, uncounted_in c.args.list.now c.loop-b.b-index low once c.args.self.now.counts c.loop-b.self-inside.shared c.add.new.self h)));
  numbers = c.loop-b.invariant.numbers;
}
