use Rattle.fs_commands.proofs.looking.Spots.{walk_is, none_against, number_is, slots_are}
use Rattle.fs_commands.proofs.facts.what_a_path_comes_to_gives_the_walk.Goals as goal

pub returns : goal.returns
returns c = record {
  walk = walk_is;
  parent = none_against;
  number = number_is c.walks_are_the_same.ensures.ends c.walks_are_the_same.ensures.last;
  slots = slots_are c.walks_are_the_same.ensures.ends;
}
