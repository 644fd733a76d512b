-- The free blocks are sound as those that may be taken.
use Rattle.std.proofs.Common.{arith, sym, subst}
use Rattle.base_types.specs.Seal.{blocks_of}
use Rattle.engine_reuse.specs.Dead.{AreSound}
use Rattle.engine_reuse.proofs.Sound.{sound_new}
use Rattle.engine_reuse.proofs.Steps.{new_is, none_marked}
use Rattle.engine_reuse.proofs.reuse.Reuse.new.Goals as goal

pub invariant_of-result : goal.invariant_of-result
invariant_of-result c =
    let reusable = c.in_ok-reusable.ensures in
    let home = c.in_ok-going_home.ensures in (
      rw (c.new-2.ensures.items, c.new-3.ensures.items) record {
        sound = subst AreSound (sym (new_is c.args.geom.now (blocks_of c.args.bitmap.now) c.in_ok-reusable.reusable reusable.members)) (sound_new c.args.geom.now (blocks_of c.args.bitmap.now));
        limit = reusable.limit;
        home_limit = omega (arith, home.limit, c.n.ensures);
        none_home = none_marked _ home.set;
      },
      omega (arith, c.new-2.ensures.len),
      omega (arith, c.new-2.ensures.len, c.new-3.ensures.len),
    )
