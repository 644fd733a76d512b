-- The seal is written behind the bytes that it covers.
use Rattle.std.proofs.Common.{◌∙◌, sym, ap}
use Rattle.base_types.specs.Seal.{sha256}
use Rattle.base_types.proofs.Seals.{before_seal, seal_stands, sealed_by}
use Rattle.base_types.proofs.block.seal.Goals as goal

pub returns-clause-body : goal.returns-clause-body
returns-clause-body c = before_seal 992 32 _ _ c.told-block

pub returns-clause-sealed : goal.returns-clause-sealed
returns-clause-sealed c =
    sealed_by _ c.copy_from_slice.new.self (seal_stands 992 32 c.args.block.now _ c.told-block)
    (c.copy_from_slice.ensures.after ∙ c.as_slice.ensures ∙ c.digest-seal.ensures
    ∙ ap sha256 (sym (before_seal 992 32 c.args.block.now c.copy_from_slice.new.self c.told-block)))
