use Rattle.std.proofs.Common.{◌≡◌, ◌+◌, ◌∷◌, [], ◌++◌, length, sym, ap, subst, ◌∙◌, arith}
use Rattle.base_types.specs.Runs.{blocks_from, run_places}
use Rattle.layout_extent.specs.Runs.{AreTidy, LieBelow, most_blocks, stretches}
use Rattle.layout_extent.proofs.Add.{longer_places, longer_tidy, longer_below, alone_places, alone_tidy, alone_below, alone_room}
use Rattle.layout_extent.proofs.runs.Runs.add.Goals as goal

pub invariant_of-self : goal.invariant_of-self
invariant_of-self c =
    let whole = c.in-Some.ensures.parts in (
      subst AreTidy (sym c.push.ensures) (longer_tidy c.args.run.count c.pop.new.self c.in-Some.last (subst AreTidy whole c.self.invariant.0)),
      subst (LieBelow most_blocks) (sym c.push.ensures)
          (longer_below most_blocks c.args.run.count c.pop.new.self c.in-Some.last c.args.run.first c.if-run-next.true c.requires.below (subst (LieBelow most_blocks) whole c.self.invariant.1)),
    )

pub push-requires-else-run-next-2 : goal.push-requires-else-run-next-2
push-requires-else-run-next-2 c =
    let whole = c.in-Some.ensures.parts in
    let room : length (c.pop.new.self ++ c.in-Some.last ∷ []) + 1 ≡ stretches (c.args.self.now ++ blocks_from c.args.run.first c.args.run.count) =
    alone_room c.pop.new.self c.in-Some.last c.args.run c.args.self.now c.if-run-next.false c.requires.some (subst AreTidy whole c.self.invariant.0) (ap run_places (sym whole) ∙ c.self.view_is) in
    omega (arith, ap length c.push-else-run-next.ensures, c.requires.room)

pub invariant_of-self-else-run-next : goal.invariant_of-self-else-run-next
invariant_of-self-else-run-next c =
    let whole = c.in-Some.ensures.parts in
    let all : c.push-else-run-next-2.new.self ≡ (c.pop.new.self ++ c.in-Some.last ∷ []) ++ c.args.run ∷ [] =
    c.push-else-run-next-2.ensures ∙ ap (λ rs. rs ++ c.args.run ∷ []) c.push-else-run-next.ensures in (
      subst AreTidy (sym all) (alone_tidy c.pop.new.self c.in-Some.last c.args.run c.if-run-next.false c.requires.some (subst AreTidy whole c.self.invariant.0)),
      subst (LieBelow most_blocks) (sym all)
          (alone_below most_blocks (c.pop.new.self ++ c.in-Some.last ∷ []) c.args.run c.requires.below (subst (LieBelow most_blocks) whole c.self.invariant.1)),
    )

pub returns-then-run-next : goal.returns-then-run-next
returns-then-run-next c =
    ap run_places c.push.ensures
    ∙ longer_places c.pop.new.self c.in-Some.last c.args.run.first c.args.run.count c.if-run-next.true
    ∙ ap (λ xs. xs ++ blocks_from c.args.run.first c.args.run.count) (ap run_places (sym c.in-Some.ensures.parts) ∙ c.self.view_is)

pub returns-else-run-next : goal.returns-else-run-next
returns-else-run-next c =
    ap run_places (c.push-else-run-next-2.ensures ∙ ap (λ rs. rs ++ c.args.run ∷ []) c.push-else-run-next.ensures)
    ∙ alone_places (c.pop.new.self ++ c.in-Some.last ∷ []) c.args.run
    ∙ ap (λ xs. xs ++ blocks_from c.args.run.first c.args.run.count) (ap run_places (sym c.in-Some.ensures.parts) ∙ c.self.view_is)
