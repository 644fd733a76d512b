use Rattle.cmd_trace.proofs.ReadPromises.{known_reads}
use Rattle.cmd_trace.proofs.read.read_known.Goals as goal

pub returns : goal.returns
returns c = rw c.known_of.ensures (known_reads record { read = c.a_number_has_one_text.ensures.read; text = c.a_number_has_one_text.ensures.text; small = c.a_number_has_one_text.ensures.small } c.args.text.now)
