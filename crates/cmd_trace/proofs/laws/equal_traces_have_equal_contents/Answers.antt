use Rattle.cmd_trace.proofs.OneTrace.{one_front, one_text}
use Rattle.cmd_trace.proofs.laws.equal_traces_have_equal_contents.Goals as goal

pub returns-clause-whole : goal.returns-clause-whole
returns-clause-whole c = one_text (assumption c.equal_texts_have_equal_values.ensures)

pub returns-clause-front : goal.returns-clause-front
returns-clause-front c = one_front (assumption c.equal_texts_have_equal_values.ensures)
