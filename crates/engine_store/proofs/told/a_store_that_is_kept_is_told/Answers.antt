use Rattle.engine_store.proofs.StoreStates.{is_told_of, nothing_by_session}
use Rattle.engine_store.proofs.told.a_store_that_is_kept_is_told.Goals as goal

pub returns-clause-told : goal.returns-clause-told
returns-clause-told c = is_told_of c.a_call_that_stays_safe_advances.ensures.told c.a_call_that_stays_safe_advances.ensures.last c.the_map_has_the_bits.ensures.bits c.the_map_needs_only_live_blocks.ensures.unput

pub returns-clause-nothing : goal.returns-clause-nothing
returns-clause-nothing c = nothing_by_session c.a_call_that_stays_safe_advances.ensures.nothing
