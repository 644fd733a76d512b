use Rattle.std.proofs.Common.{◌<◌, get_or, arith}
use Rattle.fs_files.specs.Shared.{keepers}
use Rattle.fs_commands.proofs.numbered.Lists.{one_out, uncounted_out}
use Rattle.fs_commands.proofs.known.KnownSnapshots.count_out.Goals as goal

pub loop-b-preserved : goal.loop-b-preserved
loop-b-preserved c = record {
  counts = λ kept once.
      let h = c.loop-b.invariant.counts kept once in
      let low = c.loop-b-test.true in
      let some : 0 < keepers c.loop-b.self-inside.shared (get_or c.args.list.now c.loop-b.b-index 0) = omega (arith, kept c.loop-b.b-index 0 low, uncounted_out c.args.list.now c.loop-b.b-index low once c.args.self.now.counts c.loop-b.self-inside.shared c.take.new.self h) in
      one_out c.args.list.now c.loop-b.b-index low once c.args.self.now.counts c.loop-b.self-inside.shared c.take.new.self h some (c.take.ensures.takes some);
  numbers = c.loop-b.invariant.numbers;
}
