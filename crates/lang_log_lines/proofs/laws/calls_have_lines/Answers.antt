use Rattle.lang_log_lines.proofs.Lines.{read_back}
use Rattle.lang_log_lines.proofs.laws.calls_have_lines.Goals as goal

pub returns : goal.returns
returns c =
    let law = c.arguments_are_read_back.ensures in
    read_back law.number law.bytes law.two_with_number law.two_with_bytes
