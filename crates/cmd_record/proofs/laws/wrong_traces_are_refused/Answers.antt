use Rattle.cmd_record.proofs.WrongTraces.{at_last, heard_behind, knows_more, lost_is_refused, waits_beyond, waits_for_none, waits_in_none, waits_to_look, writes_none}
use Rattle.cmd_record.proofs.laws.wrong_traces_are_refused.Goals as goal

pub returns : goal.returns
returns c = record {
  lost = λ s base m alone log cmd reply old new step. lost_is_refused s base m alone log cmd reply old new step;
  later = λ s base m alone log cmd old new step. at_last s base m alone log cmd old new step;
  writes = λ g m log mounted cmd reply new step. writes_none g m log mounted cmd reply new step;
  empty = λ s base m log reply old new step. waits_in_none s base m log reply old new step;
  looks = λ s base m log path reply old new step. waits_to_look s base m log reply old new path step;
  home = λ s base m log reply old new p t step. heard_behind s base m log reply old new p t step;
  beyond = λ s base m log n reply old new p t step goes. waits_beyond s base m log n reply old new step goes p t;
  rests = λ s base m log n reply old new step goes. waits_for_none s base m log n reply old new step goes;
  known = λ s base m log n span old new step. knows_more s base m log n span old new step;
}
