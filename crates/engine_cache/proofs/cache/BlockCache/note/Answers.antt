use Rattle.engine_cache.proofs.Entries.{noted}
use Rattle.engine_cache.proofs.cache.BlockCache.note.Goals as goal

pub returns : goal.returns
returns c = noted c.self.inside.blocks c.put.new.self c.args.self.now c.args.b c.args.bytes.now c.put.result c.a_block_is_kept_once.ensures c.a_block_is_kept_once-2.ensures c.self.view_is c.put.ensures.entries c.put.ensures.err c.put.ensures.succeeds
