use Rattle.lang_making.proofs.Trees.{tree_made}
use Rattle.lang_making.proofs.laws.commands_make_the_tree.Goals as goal

pub returns : goal.returns
returns c = λ limit most t ok small few short room.
    tree_made (record {
      keeps = c.commands_keep_a_tree_sound.ensures.step;
      found = c.paths_are_counted.ensures.found;
      taken = c.paths_are_counted.ensures.taken_out;
      least = c.without_snapshots_there_are_paths_and_nodes.ensures.unused;
    }) c.commands_keep_a_tree_sound.ensures.start limit most t ok room small few short
