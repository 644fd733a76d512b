use Rattle.std.proofs.Common.{true, false, get_or, refl, ◌<◌, length, arith}
use Rattle.engine_recover.proofs.Readings.{read_on, still_gives}
use Rattle.engine_recover.proofs.Wholes.{blank, fresh_here}
use Rattle.engine_recover.proofs.whole.fresh_fit.Goals as goal

pub returns-then-not-has_digest-clause-value : goal.returns-then-not-has_digest-clause-value
returns-then-not-has_digest-clause-value g c = λ img gives.
    let more : c.loop-entry.entry-index < length c.args.fresh.now = omega (arith, c.loop-entry-test.true, c.loop-entry.auto.entry-index-end) in
    fresh_here img c.args.fresh.now c.loop-entry.entry-index (get_or c.args.fresh.now c.loop-entry.entry-index blank) c.read_block.new.into c.has_digest.result false more refl
    (c.in_ok-read_block.ensures.gives img (still_gives _ _ _ _ img c.loop-entry.invariant.only gives)) c.has_digest.ensures c.if-not-has_digest.true (c.loop-entry.invariant.rest img gives)

pub loop-entry-preserved : goal.loop-entry-preserved
loop-entry-preserved g c =
    let more : c.loop-entry.entry-index < length c.args.fresh.now = omega (arith, c.loop-entry-test.true, c.loop-entry.auto.entry-index-end) in
    record {
      only = read_on _ _ _ _ _ c.loop-entry.invariant.only c.in_ok-read_block.ensures.reads;
      at = omega (arith, more);
      rest = λ img gives. fresh_here img c.args.fresh.now c.loop-entry.entry-index (get_or c.args.fresh.now c.loop-entry.entry-index blank) c.read_block.new.into c.has_digest.result true more refl
          (c.in_ok-read_block.ensures.gives img (still_gives _ _ _ _ img c.loop-entry.invariant.only gives)) c.has_digest.ensures c.if-not-has_digest.false (c.loop-entry.invariant.rest img gives);
    }
