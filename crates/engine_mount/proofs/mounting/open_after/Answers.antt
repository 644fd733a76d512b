use Rattle.engine_mount.proofs.Writes.{writes_once}
use Rattle.engine_mount.proofs.mounting.open_after.Goals as goal

pub returns-in-Err-clause-written : goal.returns-in-Err-clause-written
returns-in-Err-clause-written g c = λ tells. writes_once c.calls_add_at_most_one_write.ensures.write c.calls_add_at_most_one_write.ensures.wait _ _ c.open_journal.result _ _ (c.open_journal.ensures.log tells)

pub returns-in-Ok-clause-written : goal.returns-in-Ok-clause-written
returns-in-Ok-clause-written g c = λ tells. writes_once c.calls_add_at_most_one_write.ensures.write c.calls_add_at_most_one_write.ensures.wait _ _ c.open_journal.result _ _ (c.open_journal.ensures.log tells)
