use Rattle.crash_argument.proofs.steps.Safe.{safe_notices, moved}
use Rattle.crash_argument.proofs.pipe.PipelineNotices.{holds_wait}
use Rattle.crash_argument.proofs.guarded.wait_for.Goals as goal

pub returns-clause-safe : goal.returns-clause-safe
returns-clause-safe g c = λ tells s l t floor safe.
    let adds = c.wait.ensures.log tells in
    moved s _ _ _ _ l t floor c.wait.ensures.spends.same.base adds.log (safe_notices c.the_journal_is_lawful.ensures s _ _ l t floor adds.tickets safe)

pub returns-clause-knows : goal.returns-clause-knows
returns-clause-knows g c = λ tells l p h. holds_wait _ _ _ _ l p c.wait.ensures.spends.same.base (c.wait.ensures.log tells) h
