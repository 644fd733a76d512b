use Rattle.cmd_record.proofs.Sureness.{starts_by, sure_by}
use Rattle.cmd_record.proofs.laws.the_numbers_of_a_recording_are_those_of_its_points.Goals as goal

pub returns-clause-sure : goal.returns-clause-sure
returns-clause-sure c = λ g mounted front p. sure_by g mounted front p

pub returns-clause-starts : goal.returns-clause-starts
returns-clause-starts c = λ g mounted front number. starts_by g mounted front number
