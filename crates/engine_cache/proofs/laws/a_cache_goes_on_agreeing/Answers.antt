use Rattle.engine_cache.proofs.Agreeing.{agrees_on, agrees_without, agrees_noted}
use Rattle.engine_cache.proofs.laws.a_cache_goes_on_agreeing.Goals as goal

pub returns-clause-events : goal.returns-clause-events
returns-clause-events c = agrees_on

pub returns-clause-forgotten : goal.returns-clause-forgotten
returns-clause-forgotten c = agrees_without

pub returns-clause-noted : goal.returns-clause-noted
returns-clause-noted c = agrees_noted
