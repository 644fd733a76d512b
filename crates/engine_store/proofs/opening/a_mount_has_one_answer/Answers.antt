use Rattle.engine_store.proofs.OneAnswer.{not_bad, not_used_up}
use Rattle.engine_store.proofs.opening.a_mount_has_one_answer.Goals as goal

pub returns : goal.returns
returns c = record {
  header = λ d f left none. none f.run.slot f.run.header left.is_found.is_found.newest;
  numbers = not_used_up c.an_image_holds_one_map.ensures.newest c.an_image_holds_one_map.ensures.runs;
  bits = not_bad c.an_image_holds_one_map.ensures.newest c.an_image_holds_one_map.ensures.runs;
}
