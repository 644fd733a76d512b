use Rattle.std.proofs.Common.{max, ap₂, ◌∙◌}
use Rattle.engine_recover.proofs.Readings.{still_gives}
use Rattle.engine_recover.proofs.epoch.epoch_of_headers.Goals as goal

pub returns-clause-value : goal.returns-clause-value
returns-clause-value g c = λ img gives.
    c.greater.ensures ∙ ap₂ max (c.in_ok-first.ensures.value img gives) (c.in_ok-second.ensures.value img (still_gives _ _ _ _ img c.in_ok-first.ensures.reads gives))
