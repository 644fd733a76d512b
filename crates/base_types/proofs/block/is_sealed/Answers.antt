-- The bytes that are compared are the seal's and those of the digest.
use Rattle.std.proofs.Common.{ap₂, ◌∙◌, bytes_eq}
use Rattle.base_types.proofs.Seals.{rest_of}
use Rattle.base_types.proofs.block.is_sealed.Goals as goal

pub returns : goal.returns
returns c = c.eq.ensures ∙ ap₂ bytes_eq (rest_of 992 32 _ c.told-block) (c.as_slice.ensures ∙ c.digest-seal.ensures)
