-- The first line begins, and each other one is taken by the reader.
use Rattle.std.proofs.Common.{ap, option_map}
use Rattle.cmd_trace_reader.specs.Reading.{state_of}
use Rattle.cmd_trace_reader.proofs.Growing.{next_of, first_of}
use Rattle.cmd_trace_reader.proofs.lines.next_line.Goals as goal

pub returns-in_ok-taken-in-Some : goal.returns-in_ok-taken-in-Some
returns-in_ok-taken-in-Some c = next_of _ _ _ c.args.line.now c.in_ok-taken-in-Some.taken (ap (option_map state_of) c.in-Some.is) c.in_ok-taken-in-Some.ensures

pub returns-in_ok-first-in-None : goal.returns-in_ok-first-in-None
returns-in_ok-first-in-None c = first_of _ c.in_ok-first-in-None.first c.args.line.now c.is_some-taken.result (ap (option_map state_of) c.in-None.is) c.is_some-taken.ensures c.in_ok-first-in-None.ensures
