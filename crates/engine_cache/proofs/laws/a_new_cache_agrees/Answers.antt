use Rattle.engine_cache.proofs.Agreeing.{nothing_kept}
use Rattle.engine_cache.proofs.laws.a_new_cache_agrees.Goals as goal

pub returns : goal.returns
returns c = nothing_kept
