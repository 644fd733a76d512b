-- A recording on a geometry that fits ends as it should.
use Rattle.cmd_program.proofs.Requests.{ends_so}
use Rattle.cmd_program.proofs.program.record_asked.Goals as goal

pub returns-in-Ok-clause-completes : goal.returns-in-Ok-clause-completes
returns-in-Ok-clause-completes g c = λ some fits no_source no_sink. ends_so _ _ _ _ _ _ _ _ _ _ _ some c.record.ensures.records c.record.ensures.faults no_source no_sink
