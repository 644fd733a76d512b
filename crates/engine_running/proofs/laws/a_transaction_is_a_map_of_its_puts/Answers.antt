use Rattle.engine_running.proofs.ordering.PutsMap.{put_is_found, freed_is_gone, taken_is_as_before}
use Rattle.engine_running.proofs.laws.a_transaction_is_a_map_of_its_puts.Goals as goal

pub returns : goal.returns
returns c = record { put = put_is_found; freed = freed_is_gone; took = taken_is_as_before }
