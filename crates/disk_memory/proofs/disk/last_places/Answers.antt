use Rattle.std.proofs.Common.{◌+◌, subst, sym, arith, take}
use Rattle.disk_memory.proofs.disk_calls.LastFound.{AreFound, found_within, found_wrote, found_other}
use Rattle.disk_memory.proofs.disk.last_places.Goals.{in-Wrote, in_default}
use Rattle.disk_memory.proofs.disk.last_places.Goals as goal

pub index_mut-requires : goal.index_mut-requires
index_mut-requires c =
    let low = found_within c.args.blocks c.args.log.now c.loop-place.place c.index-log-place.result c.in-Wrote.ticket c.in-Wrote.block c.in-Wrote.bytes c.requires c.loop-place-test.true c.index-log-place.is c.in-Wrote.is in
    omega (arith, low, c.loop-place.invariant.size, c.loop-place.last.ok)

pub loop-place-preserved : goal.loop-place-preserved
loop-place-preserved c =
    elim c.match-log-place.branch [
      | in-Wrote w ↦ subst (λ last. AreFound c.args.blocks (take (c.loop-place.place + 1) c.args.log.now) last.items) (sym w.last-is)
          (found_wrote c.args.blocks c.args.log.now c.loop-place.last.items c.loop-place.place c.index-log-place.result w.in-Wrote.ticket w.in-Wrote.block w.in-Wrote.bytes c.requires c.loop-place-test.true c.index-log-place.is w.in-Wrote.is c.loop-place.invariant)
      | in_default w ↦ subst (λ last. AreFound c.args.blocks (take (c.loop-place.place + 1) c.args.log.now) last.items) (sym w.last-is)
          (found_other c.args.blocks c.args.log.now c.loop-place.last.items c.loop-place.place c.index-log-place.result c.loop-place-test.true c.index-log-place.is w.in_default.not-Wrote c.loop-place.invariant)
    ]
