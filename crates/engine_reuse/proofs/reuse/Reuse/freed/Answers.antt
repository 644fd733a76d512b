-- A live block becomes a held one.
use Rattle.std.proofs.Common.{◌<◌, ap, subst, sym, arith}
use Rattle.engine_reuse.specs.Dead.{DeadBlocks, IsLive}
use Rattle.engine_reuse.specs.Inside.{dead_of, AreKept}
use Rattle.engine_reuse.proofs.Sound.{sound_freed}
use Rattle.engine_reuse.proofs.reuse.Reuse.freed.Goals as goal

pub invariant_of-self : goal.invariant_of-self
invariant_of-self c =
    let was : DeadBlocks = dead_of c.self.inside.geom c.self.inside.reusable c.self.inside.held.items c.self.inside.waiting.items c.self.inside.room in
    let kept : AreKept was c.self.inside.reusable c.self.inside.going_home = c.self.invariant.0 in
    let live : IsLive was c.args.block = subst (λ (v : DeadBlocks). IsLive v c.args.block) (sym c.self.view_is) c.requires.live in
    let room : 0 < c.self.inside.room = omega (arith, c.requires.room, ap (λ (v : DeadBlocks). v.room) c.self.view_is) in (
      rw c.push_reserved.ensures.items record { sound = sound_freed was c.args.block kept.sound live; limit = kept.limit; home_limit = kept.home_limit; none_home = kept.none_home },
      omega (arith, room, c.push_reserved.ensures.len, c.push_reserved.ensures.capacity, c.self.invariant.1),
      omega (arith, room, c.push_reserved.ensures.len, c.self.invariant.2),
    )
