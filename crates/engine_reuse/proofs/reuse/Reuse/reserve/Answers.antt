-- The room is made in both rows, whose items stay.
use Rattle.std.proofs.Common.{arith}
use Rattle.engine_reuse.specs.Dead.{DeadBlocks}
use Rattle.engine_reuse.specs.Inside.{dead_of, AreKept}
use Rattle.engine_reuse.proofs.reuse.Reuse.reserve.Goals as goal

pub invariant_of-self-2 : goal.invariant_of-self-2
invariant_of-self-2 c =
    let was : DeadBlocks = dead_of c.self.inside.geom c.self.inside.reusable c.self.inside.held.items c.self.inside.waiting.items c.self.inside.room in
    let kept : AreKept was c.self.inside.reusable c.self.inside.going_home = c.self.invariant.0 in
    let held = c.in_ok-reserve.ensures in
    let waiting = c.in_ok-reserve-2.ensures in (
      rw (held.items, waiting.items) record {
        sound = record { lie = kept.sound.lie; once = kept.sound.once; ascending = kept.sound.ascending; in_order = kept.sound.in_order };
        limit = kept.limit;
        home_limit = kept.home_limit;
        none_home = kept.none_home;
      },
      held.ok,
      omega (arith, waiting.ok, c.len.ensures),
    )
