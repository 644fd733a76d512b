use Rattle.cmd_trace_reader.proofs.WrongLine.{wrong_is_none, wrong_is_one}
use Rattle.cmd_trace_reader.proofs.laws.bytes_go_wrong_at_one_line.Goals as goal

pub returns-clause-none : goal.returns-clause-none
returns-clause-none c = wrong_is_none

pub returns-clause-one : goal.returns-clause-one
returns-clause-one c = wrong_is_one
