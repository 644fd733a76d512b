use Rattle.engine_recover.proofs.InRing.{stored_in_ring}
use Rattle.engine_recover.proofs.laws.the_last_payload_is_in_the_ring.Goals as goal

pub returns : goal.returns
returns c = stored_in_ring
