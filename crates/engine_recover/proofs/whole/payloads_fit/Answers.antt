use Rattle.std.proofs.Common.{true, false, get_or, refl, ◌<◌, length, arith}
use Rattle.engine_recover.proofs.Readings.{read_on, still_gives}
use Rattle.engine_recover.proofs.Wholes.{blank, payload_here}
use Rattle.engine_recover.proofs.whole.payloads_fit.Goals as goal

pub returns-then-not-fits-clause-value : goal.returns-then-not-fits-clause-value
returns-then-not-fits-clause-value g c = λ img gives.
    let more : c.loop-entry.entry-index < length c.args.payloads.now = omega (arith, c.loop-entry-test.true, c.loop-entry.auto.entry-index-end) in
    payload_here c.args.geom img c.args.first c.loop-entry.place c.args.payloads.now c.loop-entry.entry-index (get_or c.args.payloads.now c.loop-entry.entry-index blank) c.read_ring.new.into c.fits.result false more refl c.loop-entry.invariant.place
    (c.in_ok-read_ring.ensures.gives img (still_gives _ _ _ _ img c.loop-entry.invariant.only gives)) c.fits.ensures c.if-not-fits.true (c.loop-entry.invariant.rest img gives)

pub loop-entry-preserved : goal.loop-entry-preserved
loop-entry-preserved g c =
    let more : c.loop-entry.entry-index < length c.args.payloads.now = omega (arith, c.loop-entry-test.true, c.loop-entry.auto.entry-index-end) in
    record {
      only = read_on _ _ _ _ _ c.loop-entry.invariant.only c.in_ok-read_ring.ensures.reads;
      at = omega (arith, more);
      place = omega (arith, c.loop-entry.invariant.place);
      rest = λ img gives. payload_here c.args.geom img c.args.first c.loop-entry.place c.args.payloads.now c.loop-entry.entry-index (get_or c.args.payloads.now c.loop-entry.entry-index blank) c.read_ring.new.into c.fits.result true more refl c.loop-entry.invariant.place
          (c.in_ok-read_ring.ensures.gives img (still_gives _ _ _ _ img c.loop-entry.invariant.only gives)) c.fits.ensures c.if-not-fits.false (c.loop-entry.invariant.rest img gives);
    }
