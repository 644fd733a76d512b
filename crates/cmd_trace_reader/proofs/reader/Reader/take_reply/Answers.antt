use Rattle.cmd_trace_reader.specs.Reading.{state_of}
use Rattle.cmd_trace_reader.proofs.Following.{no_reply_read}
use Rattle.cmd_trace_reader.proofs.reader.Reader.take_reply.Goals as goal

pub returns-in_default : goal.returns-in_default
returns-in_default c = no_reply_read (state_of c.args.self.now) c.args.line.now c.len-events.ensures.wide c.in_default.ensures
