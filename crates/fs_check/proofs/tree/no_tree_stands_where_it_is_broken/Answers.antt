use Rattle.fs_check.proofs.Refuted.{no_tree}
use Rattle.fs_check.proofs.tree.no_tree_stands_where_it_is_broken.Goals as goal

pub returns : goal.returns
returns c = no_tree c.files_have_one_map.ensures.one c.a_map_is_of_one_tree.ensures.alike c.the_rules_make_a_tree.ensures.rules
