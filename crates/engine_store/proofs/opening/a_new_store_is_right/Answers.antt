use Rattle.engine_store.proofs.Openings.{right_at_once, sound_at_once, begins_at, next_at_once}
use Rattle.engine_store.proofs.opening.a_new_store_is_right.Goals as goal

pub returns : goal.returns
returns c = record {
  right = right_at_once c.all_issued_is_the_last_point.ensures.last c.an_image_holds_one_map.ensures.maps;
  sound = sound_at_once;
  began = begins_at c.all_issued_is_the_last_point.ensures.last c.an_image_holds_one_map.ensures.maps;
  number = next_at_once;
}
