use Rattle.engine_mount.proofs.Writes.{writes_once}
use Rattle.engine_mount.proofs.replay.write_payload.Goals as goal

pub returns-in-Err-clause-goes_on : goal.returns-in-Err-clause-goes_on
returns-in-Err-clause-goes_on g c = λ tells n at slot old_slot h closed run x found low covered r. (c.in-Err.ensures.goes_on tells n at slot old_slot h closed run x found low covered r).1

pub returns-in-Ok-clause-goes_on : goal.returns-in-Ok-clause-goes_on
returns-in-Ok-clause-goes_on g c = λ tells n at slot old_slot h closed run x found low covered r. (c.in-Ok.ensures.goes_on tells n at slot old_slot h closed run x found low covered r).1

pub returns-in-Err-clause-written : goal.returns-in-Err-clause-written
returns-in-Err-clause-written g c = λ tells. writes_once c.calls_add_at_most_one_write.ensures.write c.calls_add_at_most_one_write.ensures.wait _ _ c.replay_block.result _ _ (c.replay_block.ensures.log tells)

pub returns-in-Ok-clause-written : goal.returns-in-Ok-clause-written
returns-in-Ok-clause-written g c = λ tells. writes_once c.calls_add_at_most_one_write.ensures.write c.calls_add_at_most_one_write.ensures.wait _ _ c.replay_block.result _ _ (c.replay_block.ensures.log tells)
