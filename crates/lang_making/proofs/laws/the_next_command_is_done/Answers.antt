use Rattle.lang_making.proofs.Between.{next_done, end_differs}
use Rattle.lang_making.proofs.laws.the_next_command_is_done.Goals as goal

pub returns-clause-next : goal.returns-clause-next
returns-clause-next c = λ limit most t front back cmd s ok small few short room.
    next_done (record {
      keeps = c.commands_keep_a_tree_sound.ensures.step;
      found = c.paths_are_counted.ensures.found;
      taken = c.paths_are_counted.ensures.taken_out;
      least = c.without_snapshots_there_are_paths_and_nodes.ensures.unused;
    }) c.commands_keep_a_tree_sound.ensures.start c.commands_keep_a_tree_sound.ensures.limit limit most t ok small few short room front back cmd s

pub returns-clause-last : goal.returns-clause-last
returns-clause-last c = λ limit most t ok small few short room.
    end_differs (record {
      keeps = c.commands_keep_a_tree_sound.ensures.step;
      found = c.paths_are_counted.ensures.found;
      taken = c.paths_are_counted.ensures.taken_out;
      least = c.without_snapshots_there_are_paths_and_nodes.ensures.unused;
    }) c.commands_keep_a_tree_sound.ensures.start c.commands_keep_a_tree_sound.ensures.limit limit most t ok small few short room
