use Rattle.cmd_trace_reader.specs.Traces.{text_of_lines}
use Rattle.cmd_trace_reader.proofs.Sound.{come_all}
use Rattle.cmd_trace_reader.proofs.GoesOn.{ended_trace, come_begins}
use Rattle.cmd_trace_reader.proofs.Once.{come_once}
use Rattle.cmd_trace_reader.proofs.Complete.{begins_come, whole_lines, ends_trace, trace_ends}
use Rattle.cmd_trace_reader.proofs.laws.lines_come_as_traces_go.Goals as goal

pub returns-clause-begins : goal.returns-clause-begins
returns-clause-begins c = λ lines are.
    (begins_come (assumption c.geometries_are_within_limits.ensures) (assumption c.equal_texts_have_equal_values.ensures) lines are, λ k. come_begins (assumption c.geometries_are_within_limits.ensures) lines k.0 k.1)

pub returns-clause-one : goal.returns-clause-one
returns-clause-one c =
    come_once (assumption (c.geometries_are_within_limits.ensures, c.a_line_says_one_thing.ensures, c.equal_texts_have_equal_values.ensures, c.equal_traces_have_equal_contents.ensures))

pub returns-clause-ends : goal.returns-clause-ends
returns-clause-ends c = λ lines s are k. (
  ends_trace (assumption c.geometries_are_within_limits.ensures) lines s k,
  trace_ends (assumption (c.geometries_are_within_limits.ensures, c.a_line_says_one_thing.ensures, c.equal_texts_have_equal_values.ensures, c.equal_traces_have_equal_contents.ensures))
      (assumption c.equal_texts_have_equal_values.ensures) lines s are k,
)

pub returns-clause-whole : goal.returns-clause-whole
returns-clause-whole c = λ lines rest are one h. (whole_lines (assumption c.geometries_are_within_limits.ensures) (assumption c.equal_texts_have_equal_values.ensures) lines rest are one h).1

pub returns-clause-says : goal.returns-clause-says
returns-clause-says c = λ lines s k ended. ended_trace record { limits = c.geometries_are_within_limits.ensures } s (text_of_lines lines) (come_all lines s k) ended
