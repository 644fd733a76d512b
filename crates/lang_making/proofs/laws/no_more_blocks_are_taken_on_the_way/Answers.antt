use Rattle.lang_making.proofs.OnTheWay.{no_more_blocks}
use Rattle.lang_making.proofs.laws.no_more_blocks_are_taken_on_the_way.Goals as goal

pub returns : goal.returns
returns c = λ limit most t front back ok small few short room.
    no_more_blocks c.commands_keep_a_tree_sound.ensures.step c.commands_keep_a_tree_sound.ensures.limit c.the_figures_are_the_blocks.ensures (record {
      keeps = c.commands_keep_a_tree_sound.ensures.step;
      found = c.paths_are_counted.ensures.found;
      taken = c.paths_are_counted.ensures.taken_out;
      least = c.without_snapshots_there_are_paths_and_nodes.ensures.unused;
    }) c.commands_keep_a_tree_sound.ensures.start limit most t ok small few short room front back
