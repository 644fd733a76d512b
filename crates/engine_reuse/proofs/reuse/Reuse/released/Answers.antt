-- The blocks going home are marked, what is reached is given up but for them, and the marks are taken off.
use Rattle.std.proofs.Common.{◌≡◌, ℕ, ◌&&◌, ◌||◌, not, List, ap, subst, sym, ◌∙◌, arith}
use Rattle.engine_reuse.specs.Numbers.{is_among, NumberSet, set_of}
use Rattle.engine_reuse.specs.Dead.{DeadBlocks, AreSound}
use Rattle.engine_reuse.specs.Calls.{with_released}
use Rattle.engine_reuse.specs.Inside.{dead_of, AreKept}
use Rattle.engine_reuse.proofs.Sound.{sound_released}
use Rattle.engine_reuse.proofs.Steps.{IsReach, HasReleased, order_of_rows, release_is, only_home, no_marks, none_released}
use Rattle.engine_reuse.proofs.reuse.Reuse.released.Goals as goal

pub reached-count-requires : goal.reached-count-requires
reached-count-requires c = order_of_rows c.self.inside.waiting.items c.self.invariant.0.sound.in_order

pub returns-then-count-eq0 : goal.returns-then-count-eq0
returns-then-count-eq0 c =
    let was : DeadBlocks = dead_of c.self.inside.geom c.self.inside.reusable c.self.inside.held.items c.self.inside.waiting.items c.self.inside.room in
    let kept : AreKept was c.self.inside.reusable c.self.inside.going_home = c.self.invariant.0 in
    let reach : IsReach c.self.inside.waiting.items c.args.sure c.reached-count.result = record { bound = c.reached-count.ensures.bound; below = c.reached-count.ensures.below; above = c.reached-count.ensures.above } in
    subst (λ (v : DeadBlocks). v ≡ with_released v c.args.sure c.args.going_home.now) c.self.view_is
    (none_released c.self.inside.geom c.self.inside.reusable c.self.inside.held.items c.self.inside.waiting.items c.self.inside.room c.args.sure c.args.going_home.now kept.sound
    (subst (λ (k : ℕ). IsReach c.self.inside.waiting.items c.args.sure k) c.if-count-eq0.true reach))

pub invariant_of-self : goal.invariant_of-self
invariant_of-self c =
    let was : DeadBlocks = dead_of c.self.inside.geom c.self.inside.reusable c.self.inside.held.items c.self.inside.waiting.items c.self.inside.room in
    let kept : AreKept was c.self.inside.reusable c.self.inside.going_home = c.self.invariant.0 in
    let reach : IsReach c.self.inside.waiting.items c.args.sure c.reached-count.result = record { bound = c.reached-count.ensures.bound; below = c.reached-count.ensures.below; above = c.reached-count.ensures.above } in
    let marked = c.put_all.ensures in
    let done : HasReleased c.self.inside.waiting.items c.give_up.new.waiting.items c.self.inside.reusable c.give_up.new.reusable c.put_all.new.self.members c.reached-count.result = record { waiting = c.give_up.ensures.waiting; served = c.give_up.ensures.reusable } in
    let is = release_is c.self.inside.geom c.self.inside.reusable c.give_up.new.reusable c.self.inside.going_home c.put_all.new.self c.self.inside.held.items c.self.inside.waiting.items c.give_up.new.waiting.items c.self.inside.room c.args.sure c.reached-count.result c.args.going_home.now kept reach marked done in
    let out = c.take_all_out.ensures in (
      record {
        sound = subst AreSound (sym is) (sound_released was c.args.sure c.args.going_home.now kept.sound);
        limit = omega (arith, kept.limit, ap (λ (s : NumberSet). s.limit) c.give_up.ensures.reusable);
        home_limit = omega (arith, kept.home_limit, ap (λ (s : NumberSet). s.limit) marked, ap (λ (s : NumberSet). s.limit) out);
        none_home = no_marks c.self.inside.going_home.limit c.args.going_home.now c.put_all.new.self c.take_all_out.new.self
            (only_home c.self.inside.geom c.self.inside.reusable c.self.inside.going_home c.put_all.new.self c.self.inside.held.items c.self.inside.waiting.items c.self.inside.room c.args.going_home.now kept marked) out;
      },
      c.self.invariant.1,
      omega (arith, c.give_up.ensures.len, c.give_up.ensures.capacity, c.self.invariant.2),
    )

pub returns : goal.returns
returns c =
    let was : DeadBlocks = dead_of c.self.inside.geom c.self.inside.reusable c.self.inside.held.items c.self.inside.waiting.items c.self.inside.room in
    let kept : AreKept was c.self.inside.reusable c.self.inside.going_home = c.self.invariant.0 in
    let reach : IsReach c.self.inside.waiting.items c.args.sure c.reached-count.result = record { bound = c.reached-count.ensures.bound; below = c.reached-count.ensures.below; above = c.reached-count.ensures.above } in
    let marked = c.put_all.ensures in
    let done : HasReleased c.self.inside.waiting.items c.give_up.new.waiting.items c.self.inside.reusable c.give_up.new.reusable c.put_all.new.self.members c.reached-count.result = record { waiting = c.give_up.ensures.waiting; served = c.give_up.ensures.reusable } in
    let is = release_is c.self.inside.geom c.self.inside.reusable c.give_up.new.reusable c.self.inside.going_home c.put_all.new.self c.self.inside.held.items c.self.inside.waiting.items c.give_up.new.waiting.items c.self.inside.room c.args.sure c.reached-count.result c.args.going_home.now kept reach marked done in
    is ∙ ap (λ (v : DeadBlocks). with_released v c.args.sure c.args.going_home.now) c.self.view_is
