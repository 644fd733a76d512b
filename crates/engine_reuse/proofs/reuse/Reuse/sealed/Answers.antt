-- What is held waits.
use Rattle.std.proofs.Common.{ℕ, ◌++◌, ◌≤◌, List, map, ap, subst, sym, ◌∙◌, arith}
use Rattle.std.specs.List.{All}
use Rattle.engine_reuse.specs.declared.waiting.Freed.{Freed}
use Rattle.engine_reuse.specs.Dead.{DeadBlocks, freed_by, AreSound}
use Rattle.engine_reuse.specs.Calls.{with_sealed}
use Rattle.engine_reuse.specs.Inside.{dead_of, AreKept}
use Rattle.engine_reuse.proofs.Sound.{sound_sealed}
use Rattle.engine_reuse.proofs.Steps.{sealed_is}
use Rattle.engine_reuse.proofs.reuse.Reuse.sealed.Goals as goal

pub invariant_of-self : goal.invariant_of-self
invariant_of-self c =
    let was : DeadBlocks = dead_of c.self.inside.geom c.self.inside.reusable c.self.inside.held.items c.self.inside.waiting.items c.self.inside.room in
    let kept : AreKept was c.self.inside.reusable c.self.inside.going_home = c.self.invariant.0 in
    let upto : All (λ p. freed_by p ≤ c.args.number) was.waiting = subst (λ (v : DeadBlocks). All (λ p. freed_by p ≤ c.args.number) v.waiting) (sym c.self.view_is) c.requires in
    let items = c.add_waiting.ensures.items ∙ ap (λ (bs : List ℕ). c.self.inside.waiting.items ++ map {B = Freed} (λ b. record { block = b; number = c.args.number }) bs) c.deref.ensures.value in
    let is = sealed_is c.self.inside.geom c.self.inside.reusable c.self.inside.held.items c.self.inside.waiting.items c.add_waiting.new.waiting.items c.self.inside.room c.args.number items in (
      rw c.clear.ensures.items record { sound = subst AreSound (sym is) (sound_sealed was c.args.number kept.sound upto); limit = kept.limit; home_limit = kept.home_limit; none_home = kept.none_home },
      omega (arith, c.clear.ensures.len, c.clear.ensures.capacity, c.self.invariant.1),
      omega (arith, c.clear.ensures.len, c.add_waiting.ensures.len, c.add_waiting.ensures.capacity, c.deref.ensures.len, c.self.invariant.2),
    )

pub returns : goal.returns
returns c =
    let items = c.add_waiting.ensures.items ∙ ap (λ (bs : List ℕ). c.self.inside.waiting.items ++ map {B = Freed} (λ b. record { block = b; number = c.args.number }) bs) c.deref.ensures.value in
    rw c.clear.ensures.items
    (sealed_is c.self.inside.geom c.self.inside.reusable c.self.inside.held.items c.self.inside.waiting.items c.add_waiting.new.waiting.items c.self.inside.room c.args.number items
    ∙ ap (λ (v : DeadBlocks). with_sealed v c.args.number) c.self.view_is)
