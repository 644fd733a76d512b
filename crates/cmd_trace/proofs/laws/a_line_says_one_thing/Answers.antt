use Rattle.cmd_trace.proofs.ReadPromises.{one_event, one_reply}
use Rattle.cmd_trace.proofs.laws.a_line_says_one_thing.Goals as goal

pub returns-clause-event : goal.returns-clause-event
returns-clause-event c = one_event record { read = c.a_number_has_one_text.ensures.read; text = c.a_number_has_one_text.ensures.text; small = c.a_number_has_one_text.ensures.small }

pub returns-clause-reply : goal.returns-clause-reply
returns-clause-reply c = one_reply record { read = c.a_number_has_one_text.ensures.read; text = c.a_number_has_one_text.ensures.text; small = c.a_number_has_one_text.ensures.small }
