use Rattle.cmd_trace.proofs.ReadPromises.{reply_reads}
use Rattle.cmd_trace.proofs.read.read_reply.Goals as goal

pub returns : goal.returns
returns c = rw c.reply_in.ensures (reply_reads record { read = c.a_number_has_one_text.ensures.read; text = c.a_number_has_one_text.ensures.text; small = c.a_number_has_one_text.ensures.small } c.args.line.now)
