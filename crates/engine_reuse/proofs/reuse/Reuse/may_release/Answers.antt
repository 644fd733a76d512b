-- A record up to this number is reached, or none is.
use Rattle.std.proofs.Common.{◌≡◌, ℕ, ◌<◌, ◌≤◌, List, ◌∷◌, [], length, map, slice_get, Some, refl, sym, subst, arith}
use Rattle.std.proofs.lemmas.Bool.{ltb-true, ltb-false}
use Rattle.std.specs.List.{AllWithin}
use Rattle.engine_reuse.specs.declared.waiting.Freed.{Freed}
use Rattle.engine_reuse.specs.Calls.{with_released}
use Rattle.engine_reuse.specs.Dead.{DeadBlocks, freed_by}
use Rattle.engine_reuse.specs.Inside.{dead_of, AreKept, pair_of}
use Rattle.engine_reuse.proofs.Steps.{IsReach, order_of_rows, none_released}
use Rattle.engine_reuse.proofs.reuse.Reuse.may_release.Goals as goal

pub reached-requires : goal.reached-requires
reached-requires c = order_of_rows c.self.inside.waiting.items c.self.invariant.0.sound.in_order

first_reached : (xs : List Freed) (sure n : ℕ) → 0 < n → n ≤ length xs → AllWithin (λ (f : Freed). f.number ≤ sure) xs 0 n → (p : ℕ × ℕ) × (slice_get (map pair_of xs) 0 ≡ Some p) × (freed_by p ≤ sure)
first_reached [] sure n some few below = absurd (omega (arith, some, few))
first_reached (f ∷ xs) sure n some few below = (pair_of f, refl, below 0 f (omega arith) some)

pub returns-clause-none : goal.returns-clause-none
returns-clause-none c = λ none going_home.
    let was : DeadBlocks = dead_of c.self.inside.geom c.self.inside.reusable c.self.inside.held.items c.self.inside.waiting.items c.self.inside.room in
    let kept : AreKept was c.self.inside.reusable c.self.inside.going_home = c.self.invariant.0 in
    let reach : IsReach c.self.inside.waiting.items c.args.sure c.reached.result = record { bound = c.reached.ensures.bound; below = c.reached.ensures.below; above = c.reached.ensures.above } in
    let zero : c.reached.result ≡ 0 = omega (arith, ltb-false 0 c.reached.result none) in
    sym (subst (λ (v : DeadBlocks). v ≡ with_released v c.args.sure going_home) c.self.view_is
    (none_released c.self.inside.geom c.self.inside.reusable c.self.inside.held.items c.self.inside.waiting.items c.self.inside.room c.args.sure going_home kept.sound
    (subst (λ (k : ℕ). IsReach c.self.inside.waiting.items c.args.sure k) zero reach)))

pub returns-clause-some : goal.returns-clause-some
returns-clause-some c = λ some. subst (λ (v : DeadBlocks). (p : ℕ × ℕ) × (slice_get v.waiting 0 ≡ Some p) × (freed_by p ≤ c.args.sure)) c.self.view_is
    (first_reached c.self.inside.waiting.items c.args.sure c.reached.result (ltb-true 0 c.reached.result some) c.reached.ensures.bound c.reached.ensures.below)
