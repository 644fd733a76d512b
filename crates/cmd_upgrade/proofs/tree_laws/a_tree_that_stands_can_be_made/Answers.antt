-- A tree that an image stands for has small files with few paths, and short names.
use Rattle.std.proofs.Common.{subst, sym}
use Rattle.base_types.specs.declared.layout.Layout.{Layout}
use Rattle.lang_making.specs.Making.{HasShortNames}
use Rattle.cmd_upgrade.proofs.Makeable.{few_paths, short_names, small_files}
use Rattle.cmd_upgrade.proofs.tree_laws.a_tree_that_stands_can_be_made.Goals as goal

pub returns : goal.returns
returns c = λ n img t g is two nodes.
    let sound = c.a_tree_that_stands_is_sound.ensures.sound is.held.header.geom is.map t is.tree in
    record {
      most = is.held.header.geom.i;
      sound = sound;
      small = small_files is.held.header.geom is.map t is.tree;
      few = few_paths is.held.header.geom is.map t is.tree sound c.paths_are_counted.ensures.found c.paths_are_counted.ensures.directory;
      short = subst (λ (l : Layout). HasShortNames l t.names) (sym two) (c.layout_two_takes_all_names.ensures t.names (short_names is.held.header.geom is.map t is.tree));
      nodes = nodes;
    }
