use Rattle.engine_cache.proofs.Entries.{forgotten}
use Rattle.engine_cache.proofs.cache.BlockCache.forget.Goals as goal

pub returns : goal.returns
returns c = forgotten c.self.inside.blocks c.pop.new.self c.args.self.now c.args.b c.a_block_is_kept_once.ensures c.self.view_is c.pop.ensures.entries
