-- Each turn settles one record more.
use Rattle.std.proofs.Common.{◌∙◌, sym, ap, subst, arith}
use Rattle.std.proofs.lemmas.Bool.Decides.{nat_tests}
use Rattle.engine_checkpoint.specs.declared.pipeline.Pipeline.{Pipeline}
use Rattle.engine_checkpoint.specs.Steps.{SettlesSome, is_first_settled}
use Rattle.engine_checkpoint.proofs.Settled.{settles_none, settles_more, turned_same, agrees_more, agrees_as, settled_first, stayed, none_left}
use Rattle.engine_checkpoint.proofs.advance.settle_all.Goals as goal

pub loop-turn-init : goal.loop-turn-init
loop-turn-init c = grind (arith, nat_tests, settles_none, turned_same)

pub loop-turn-preserved : goal.loop-turn-preserved
loop-turn-preserved c = record {
  settles = settles_more c.loop-turn.turn c.args.pipeline.now c.loop-turn.pipeline c.settle_first.new.pipeline c.loop-turn.invariant.settles (settled_first c.settle_first.result c.loop-turn.pipeline c.settle_first.new.pipeline c.if-not-settle_first.false c.settle_first.ensures.settles);
  order = c.settle_first.ensures.fit.order;
  room = c.settle_first.ensures.fit.room;
  agrees = λ s base log l t floor ring waiting taken safe a. agrees_more s base log l t floor ring waiting taken c.settle_first.result c.loop-turn.pipeline c.settle_first.new.pipeline c.if-not-settle_first.false (c.loop-turn.invariant.agrees s base log l t floor ring waiting taken safe a) (λ k safe2 a2. c.settle_first.ensures.agrees s base log k t floor ring waiting taken safe2 a2);
}

pub returns-then-not-settle_first-clause-agrees : goal.returns-then-not-settle_first-clause-agrees
returns-then-not-settle_first-clause-agrees c = λ s base log l t floor ring waiting taken safe a. agrees_as s base log l t floor ring waiting taken c.loop-turn.pipeline c.settle_first.new.pipeline (stayed c.settle_first.result c.loop-turn.pipeline c.settle_first.new.pipeline c.if-not-settle_first.true c.settle_first.ensures.settles) (c.loop-turn.invariant.agrees s base log l t floor ring waiting taken safe a)

pub returns-then-not-settle_first-clause-settles : goal.returns-then-not-settle_first-clause-settles
returns-then-not-settle_first-clause-settles c = (c.loop-turn.turn, subst (λ (p : Pipeline). SettlesSome c.loop-turn.turn c.args.pipeline.now p) (sym (stayed c.settle_first.result c.loop-turn.pipeline c.settle_first.new.pipeline c.if-not-settle_first.true c.settle_first.ensures.settles)) c.loop-turn.invariant.settles)

pub returns-then-not-settle_first-clause-due : goal.returns-then-not-settle_first-clause-due
returns-then-not-settle_first-clause-due c = ap (λ (p : Pipeline). is_first_settled p.committed.items p.notes.notes) (stayed c.settle_first.result c.loop-turn.pipeline c.settle_first.new.pipeline c.if-not-settle_first.true c.settle_first.ensures.settles) ∙ sym c.settle_first.ensures.exact ∙ c.if-not-settle_first.true

pub returns-clause-due : goal.returns-clause-due
returns-clause-due c = grind (arith, nat_tests, none_left)
