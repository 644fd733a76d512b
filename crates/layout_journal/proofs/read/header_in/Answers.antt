use Rattle.std.proofs.Common.{◌∙◌, sym, rules}
use Rattle.layout_journal.proofs.ReadFields.{no_geometry}
use Rattle.layout_journal.proofs.read.header_in.Goals as goal

pub returns-in_err-header : goal.returns-in_err-header
returns-in_err-header c = c.from_residual.ensures ∙ sym (no_geometry _ _ (c.header_fields.ensures.missing (search rules)))
