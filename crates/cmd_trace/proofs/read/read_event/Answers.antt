use Rattle.std.proofs.Common.{◌≡◌, rules}
use Rattle.cmd_trace.specs.ReadLines.{behind, event_by_letter}
use Rattle.cmd_trace.proofs.ReadPromises.{event_reads}
use Rattle.cmd_trace.proofs.read.read_event.Goals as goal

pub returns : goal.returns
returns c =
    let same : c.in_ok-event.event ≡ behind event_by_letter c.args.line.now = search (rules, c.in_ok-event.ensures) in
    rw same (event_reads record { read = c.a_number_has_one_text.ensures.read; text = c.a_number_has_one_text.ensures.text; small = c.a_number_has_one_text.ensures.small } c.args.line.now)
