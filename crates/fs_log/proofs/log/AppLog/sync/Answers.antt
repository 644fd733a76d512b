use Rattle.std.proofs.Common.{subst, sym, arith}
use Rattle.fs_commands.specs.Opened.{blocks_in}
use Rattle.lang_log.specs.History.{synced}
use Rattle.fs_log.specs.Causes.{AsksToSync, HasCallCause}
use Rattle.fs_log.specs.Keeping.{TakesLog, as_before}
use Rattle.fs_log.specs.Open.{state_in}
use Rattle.fs_log.specs.Refusals.{is_of_none}
use Rattle.fs_log.specs.Ways.{Way}
use Rattle.fs_log.proofs.Causes.{asked_with, passed_on}
use Rattle.fs_log.proofs.Mirroring.{mirrors_over, on_err}
use Rattle.fs_log.proofs.log.AppLog.sync.Goals as goal

pub invariant_of-self : goal.invariant_of-self
invariant_of-self g c = record {
  follows = c.sync-reply.ensures.follows;
  least = c.self.invariant.least;
  most = c.self.invariant.most;
  kept = c.self.invariant.kept;
  mirrors = λ told. mirrors_over (g.S.Blocks.state (blocks_in c.self.inside.fs)) (g.S.Blocks.state (blocks_in c.sync-reply.new.fs)) c.self.inside.firsts.items c.self.inside.size c.self.inside.next
      (c.sync-reply.ensures.rests told).holds (c.self.invariant.mirrors told);
}

pub returns-in_err-point-clause-refused : goal.returns-in_err-point-clause-refused
returns-in_err-point-clause-refused g c = λ told. on_err c.from_residual.result _
    (subst (λ l. TakesLog as_before (state_in g.S.Blocks.state l) (g.S.Blocks.state (blocks_in c.sync-reply.new.fs))) c.self.view_is (c.sync-reply.ensures.rests told).takes)

pub invariant_of-self-2 : goal.invariant_of-self-2
invariant_of-self-2 g c = record {
  follows = c.sync-reply.ensures.follows;
  least = c.self.invariant.least;
  most = c.self.invariant.most;
  kept = omega arith;
  mirrors = λ told. mirrors_over (g.S.Blocks.state (blocks_in c.self.inside.fs)) (g.S.Blocks.state (blocks_in c.sync-reply.new.fs)) c.self.inside.firsts.items c.self.inside.size c.self.inside.next
      (c.sync-reply.ensures.rests told).holds (c.self.invariant.mirrors told);
}

pub returns-clause-done : goal.returns-clause-done
returns-clause-done g c = λ told.
    subst (λ l. TakesLog synced (state_in g.S.Blocks.state l) (g.S.Blocks.state (blocks_in c.sync-reply.new.fs))) c.self.view_is
    (c.sync-reply.ensures.promised told c.in_ok-point.point c.in_ok-point.ensures.done)

pub returns-in_err-point-clause-cause : goal.returns-in_err-point-clause-cause
returns-in_err-point-clause-cause g c =
    passed_on c.from_residual.result c.in_err-point.field-0.0 _ c.from_residual.ensures.1
    (subst (λ l. HasCallCause g.S.Blocks.tells g.S.Blocks.state is_of_none AsksToSync c.in_err-point.field-0.0 (blocks_in l.fs) (blocks_in c.sync-reply.new.fs)) c.self.view_is
    (subst (λ w. HasCallCause g.S.Blocks.tells g.S.Blocks.state is_of_none AsksToSync w (blocks_in c.self.inside.fs) (blocks_in c.sync-reply.new.fs)) (sym c.in_err-point.ensures.why)
    (c.sync-reply.ensures.cause c.in_err-point.ensures.not)))

pub returns-clause-asked : goal.returns-clause-asked
returns-clause-asked g c = λ told.
    subst (λ l. Way g.S.Blocks.tells g.S.Blocks.state AsksToSync (blocks_in l.fs) (blocks_in c.sync-reply.new.fs)) c.self.view_is
    (asked_with g.S.Blocks.tells g.S.Blocks.state AsksToSync c.sync-reply.result (blocks_in c.self.inside.fs) (blocks_in c.sync-reply.new.fs) c.sync-reply.ensures.was told)
