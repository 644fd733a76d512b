use Rattle.std.proofs.Common.{◌≡◌, ap₂, ◌∙◌, rules}
use Rattle.engine_recover.specs.Epoch.{header_epoch}
use Rattle.engine_recover.proofs.epoch.epoch_in_slot.Goals as goal

pub returns-clause-value : goal.returns-clause-value
returns-clause-value g c = λ img gives.
    let size : c.n.result ≡ c.args.geom.n = search rules in
    c.header_epoch.ensures ∙ ap₂ header_epoch size (c.in_ok-read_block.ensures.gives img gives)
