-- The digest of the listing.
use Rattle.std.proofs.Common.{ap, ◌∙◌}
use Rattle.base_types.specs.Seal.{sha256}
use Rattle.cmd_load.proofs.listed.digest_of.Goals as goal

pub returns : goal.returns
returns c = λ f is. c.digest.ensures ∙ ap sha256 (c.as_slice.ensures.value ∙ c.in_ok-text.ensures f is)
