use Rattle.cmd_trace.proofs.ReadPromises.{refusal_reads}
use Rattle.cmd_trace.proofs.read.read_refusal.Goals as goal

pub returns : goal.returns
returns c = rw c.refusal_of.ensures (refusal_reads record { read = c.a_number_has_one_text.ensures.read; text = c.a_number_has_one_text.ensures.text; small = c.a_number_has_one_text.ensures.small } c.args.text.now)
