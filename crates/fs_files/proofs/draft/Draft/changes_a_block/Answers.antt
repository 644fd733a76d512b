use Rattle.std.proofs.Common.{length, ap, ◌∙◌}
use Rattle.fs_files.specs.Drafts.{DraftState}
use Rattle.fs_files.proofs.finishing.Prices.{some_changed}
use Rattle.fs_files.proofs.draft.Draft.changes_a_block.Goals as goal

pub returns : goal.returns
returns c = some_changed c.args.self.now.changed c.len.result (c.len.ensures ∙ ap (λ (d : DraftState). length d.changed) c.self.view_is)
