use Rattle.engine_store.proofs.Openings.{map_is, none_lost, accepted_is}
use Rattle.engine_store.proofs.opening.a_session_begins_with_its_map.Goals as goal

pub returns : goal.returns
returns c = record {
  map = map_is c.all_issued_is_the_last_point.ensures.last c.an_image_holds_one_map.ensures.maps;
  lost = none_lost c.a_read_gives_what_was_written_last.ensures.idle;
  accepted = accepted_is c.a_read_gives_what_was_written_last.ensures.idle;
}
