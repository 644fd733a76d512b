use Rattle.std.proofs.Common.{◌∙◌, ◌++◌, ap, List, ℕ}
use Rattle.base_types.specs.Seal.{sha256}
use Rattle.layout_journal.proofs.write_record.write_commit.Goals as goal

pub returns : goal.returns
returns c = c.seal_into.ensures ∙ ap (λ (t : List ℕ). t ++ sha256 t) c.commit_body-text.ensures.body
