use Rattle.cmd_record.proofs.Weights.{finds_enough, finds_places}
use Rattle.cmd_record.proofs.laws.what_need_not_come_back_is_there.Goals as goal

pub returns : goal.returns
returns c = record {
  places = λ g m log mounted cmds replies marks last next cmd reply paces step. finds_places g m log mounted
      (record { leaves = c.a_command_costs_at_most_so_much.ensures.weight; more = c.a_command_costs_at_most_so_much.ensures.more }) cmds replies marks last next cmd reply paces step;
  blocks = λ g m log mounted cmds replies marks last need paces enough.
      finds_enough g m log mounted (λ f next old new cmd reply answers up. let few = c.a_command_takes_no_more_blocks_than_it_needs.ensures in (few.keeps g f next old new cmd reply answers up, few.few g f next old new cmd reply answers up)) (c.a_command_costs_at_most_so_much.ensures.need g) cmds replies marks last need paces enough;
}
