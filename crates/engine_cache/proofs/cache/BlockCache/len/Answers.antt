use Rattle.std.proofs.Common.{◌∙◌, ap, sym}
use Rattle.std.specs.FinMap.{len}
use Rattle.engine_cache.proofs.Entries.{len_seen}
use Rattle.engine_cache.proofs.cache.BlockCache.len.Goals as goal

pub returns-clause-count : goal.returns-clause-count
returns-clause-count c = c.len.ensures.len ∙ sym (len_seen c.self.inside.blocks.entries c.len.ensures.valid.0) ∙ ap (λ s. len s.kept) c.self.view_is
