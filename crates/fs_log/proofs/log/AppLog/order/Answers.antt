use Rattle.std.proofs.Common.{subst, sym}
use Rattle.std.specs.Prelude.{IfErr}
use Rattle.fs_commands.specs.Opened.{blocks_in}
use Rattle.fs_log.specs.Causes.{AsksToOrder, HasCallCause}
use Rattle.fs_log.specs.Keeping.{TakesLog, as_before}
use Rattle.fs_log.specs.Open.{state_in}
use Rattle.fs_log.specs.Refusals.{is_of_none}
use Rattle.fs_log.specs.Ways.{Way}
use Rattle.fs_log.proofs.Causes.{asked_with, if_err_not}
use Rattle.fs_log.proofs.Mirroring.{mirrors_over, on_ok}
use Rattle.fs_log.proofs.log.AppLog.order.Goals as goal

pub invariant_of-self : goal.invariant_of-self
invariant_of-self g c = record {
  follows = c.order-reply.ensures.follows;
  least = c.self.invariant.least;
  most = c.self.invariant.most;
  kept = c.self.invariant.kept;
  mirrors = λ told. mirrors_over (g.S.Blocks.state (blocks_in c.self.inside.fs)) (g.S.Blocks.state (blocks_in c.order-reply.new.fs)) c.self.inside.firsts.items c.self.inside.size c.self.inside.next
      (c.order-reply.ensures.rests told).holds (c.self.invariant.mirrors told);
}

pub returns-clause-goes : goal.returns-clause-goes
returns-clause-goes g c = λ told.
    subst (λ l. TakesLog as_before (state_in g.S.Blocks.state l) (g.S.Blocks.state (blocks_in c.order-reply.new.fs))) c.self.view_is (c.order-reply.ensures.rests told).takes

pub returns-clause-cause : goal.returns-clause-cause
returns-clause-cause g c =
    subst (λ l. IfErr c.point_made.result (λ why. HasCallCause g.S.Blocks.tells g.S.Blocks.state is_of_none AsksToOrder why (blocks_in l.fs) (blocks_in c.order-reply.new.fs))) c.self.view_is
    (if_err_not c.point_made.result _ _ _ c.point_made.ensures.why c.point_made.ensures.not
    (λ why is none. subst (λ w. HasCallCause g.S.Blocks.tells g.S.Blocks.state is_of_none AsksToOrder w (blocks_in c.self.inside.fs) (blocks_in c.order-reply.new.fs)) (sym is) (c.order-reply.ensures.cause none)))

pub returns-clause-asked : goal.returns-clause-asked
returns-clause-asked g c = λ told. on_ok c.point_made.result _
    (subst (λ l. Way g.S.Blocks.tells g.S.Blocks.state AsksToOrder (blocks_in l.fs) (blocks_in c.order-reply.new.fs)) c.self.view_is
    (asked_with g.S.Blocks.tells g.S.Blocks.state AsksToOrder c.order-reply.result (blocks_in c.self.inside.fs) (blocks_in c.order-reply.new.fs) c.order-reply.ensures.was told))
