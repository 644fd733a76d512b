-- The seal is that of the body, and is behind it.
use Rattle.std.proofs.Common.{◌≡◌, ◌∙◌, ◌++◌, ap, ap₂}
use Rattle.base_types.specs.Seal.{sha256}
use Rattle.layout_journal.specs.Spelling.{header_body}
use Rattle.layout_journal.proofs.write.write_header.Goals as goal

pub returns : goal.returns
returns c =
    let body = c.header_body-text.ensures.body in
    let seal : c.as_slice-2.result.now ≡ sha256 (header_body c.args.header.now) =
    c.as_slice-2.ensures ∙ c.digest-seal.ensures ∙ ap sha256 (c.as_slice.ensures.value ∙ body) in
    c.copy_from_slice.ensures.after ∙ c.as_slice-3.ensures.value ∙ c.put.ensures.bytes ∙ ap₂ ◌++◌ body seal
