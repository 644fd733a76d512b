-- Each turn drops one ticket more.
use Rattle.std.proofs.Common.{List, ℕ, subst}
use Rattle.engine_running.specs.States.{Forgets}
use Rattle.engine_checkpoint.proofs.Placing.{forgets_next}
use Rattle.engine_checkpoint.proofs.batch.forget_all.Goals as goal

pub loop-write-preserved : goal.loop-write-preserved
loop-write-preserved c = record {
  so_far = forgets_next c.args.home.now c.loop-write.write-index (record { block = 0; ticket = 0 }) c.args.notes.now c.loop-write.notes c.forget.new.self c.loop-write-test.true c.loop-write.invariant.so_far
      (subst (λ (ts : List ℕ). Forgets ts c.loop-write.notes c.forget.new.self) c.as_slice.ensures (record { expected = c.forget.ensures.expected; noticed = c.forget.ensures.noticed; room = c.forget.ensures.room }));
}
