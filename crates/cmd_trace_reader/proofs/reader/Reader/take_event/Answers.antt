use Rattle.cmd_trace_reader.specs.Reading.{state_of}
use Rattle.cmd_trace_reader.proofs.Following.{event_refused}
use Rattle.cmd_trace_reader.proofs.reader.Reader.take_event.Goals as goal

pub returns-then-not-branch : goal.returns-then-not-branch
returns-then-not-branch c =
    event_refused record { one = c.a_line_says_one_thing.ensures.event } (state_of c.args.self.now) c.args.line.now c.in_ok-event.field-0 c.in-Some.event c.n.result c.in_ok-take.field-0 c.take.new.self
    c.lawful.ensures.limits c.in_ok-event.ensures c.in-Some.is c.n.ensures c.in_ok-take.ensures.takes c.if-not-branch.true
