-- Less than once around the ring no place comes again.
use Rattle.layout_journal.proofs.RingPlaces.{handed_free, handed_taken, still_taken, none_comes}
use Rattle.layout_journal.proofs.laws.a_ring_hands_out_free_places.Goals as goal

pub returns : goal.returns
returns c = record { free = handed_free; handed = handed_taken; kept = still_taken; back = none_comes }
