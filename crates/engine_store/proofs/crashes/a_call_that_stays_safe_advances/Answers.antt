use Rattle.engine_store.proofs.Windows.{advances_of, told_of, last_of, accepted_of, nothing_of}
use Rattle.engine_store.proofs.OnePoint.{made_of}
use Rattle.engine_store.proofs.crashes.a_call_that_stays_safe_advances.Goals as goal

pub returns-clause-advances : goal.returns-clause-advances
returns-clause-advances c = advances_of c.a_point_is_for_ever.ensures.stays c.a_point_is_for_ever.ensures.was

pub returns-clause-told : goal.returns-clause-told
returns-clause-told c = told_of c.a_call_begins_safe.ensures

pub returns-clause-last : goal.returns-clause-last
returns-clause-last c = last_of c.all_issued_is_the_last_point.ensures.held c.all_issued_is_the_last_point.ensures.last c.an_image_holds_one_map.ensures.maps

pub returns-clause-made : goal.returns-clause-made
returns-clause-made c = made_of c.all_issued_is_the_last_point.ensures.last c.an_image_holds_one_map.ensures.maps

pub returns-clause-accepted : goal.returns-clause-accepted
returns-clause-accepted c = accepted_of c.a_read_gives_what_was_written_last.ensures.last

pub returns-clause-nothing : goal.returns-clause-nothing
returns-clause-nothing c = nothing_of

pub returns-clause-writes : goal.returns-clause-writes
returns-clause-writes c = λ s base old new j k c d a b v w more le. le
