-- What is taken may be taken no more.
use Rattle.std.proofs.Common.{ℕ, ◌&&◌, not, List, ap, subst, sym, ◌∙◌, arith}
use Rattle.engine_reuse.specs.Numbers.{is_among, NumberSet, set_of}
use Rattle.engine_reuse.specs.Dead.{DeadBlocks, AreSound}
use Rattle.engine_reuse.specs.Calls.{with_taken}
use Rattle.engine_reuse.specs.Inside.{dead_of, AreKept}
use Rattle.engine_reuse.proofs.Sound.{sound_taken}
use Rattle.engine_reuse.proofs.Steps.{taken_is}
use Rattle.engine_reuse.proofs.reuse.Reuse.taken.Goals as goal

pub invariant_of-self : goal.invariant_of-self
invariant_of-self c =
    let was : DeadBlocks = dead_of c.self.inside.geom c.self.inside.reusable c.self.inside.held.items c.self.inside.waiting.items c.self.inside.room in
    let kept : AreKept was c.self.inside.reusable c.self.inside.going_home = c.self.invariant.0 in
    let out = c.take_all_out.ensures ∙ ap (λ (bs : List ℕ). set_of c.self.inside.reusable.limit (λ b. not (is_among b bs) && is_among b c.self.inside.reusable.members)) c.as_slice.ensures in
    let is = taken_is c.self.inside.geom c.self.inside.reusable c.take_all_out.new.self c.self.inside.held.items c.self.inside.waiting.items c.self.inside.room c.args.blocks.now kept.sound kept.limit out in (
      record {
        sound = subst AreSound (sym is) (sound_taken was c.args.blocks.now kept.sound);
        limit = omega (arith, kept.limit, ap (λ (s : NumberSet). s.limit) out);
        home_limit = kept.home_limit;
        none_home = kept.none_home;
      },
      c.self.invariant.1,
      c.self.invariant.2,
    )

pub returns : goal.returns
returns c =
    let was : DeadBlocks = dead_of c.self.inside.geom c.self.inside.reusable c.self.inside.held.items c.self.inside.waiting.items c.self.inside.room in
    let kept : AreKept was c.self.inside.reusable c.self.inside.going_home = c.self.invariant.0 in
    let out = c.take_all_out.ensures ∙ ap (λ (bs : List ℕ). set_of c.self.inside.reusable.limit (λ b. not (is_among b bs) && is_among b c.self.inside.reusable.members)) c.as_slice.ensures in
    taken_is c.self.inside.geom c.self.inside.reusable c.take_all_out.new.self c.self.inside.held.items c.self.inside.waiting.items c.self.inside.room c.args.blocks.now kept.sound kept.limit out
    ∙ ap (λ (v : DeadBlocks). with_taken v c.args.blocks.now) c.self.view_is
