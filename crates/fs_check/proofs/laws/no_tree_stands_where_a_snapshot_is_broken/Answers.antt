use Rattle.fs_check.proofs.keeping.Broken.{broken_none}
use Rattle.fs_check.proofs.laws.no_tree_stands_where_a_snapshot_is_broken.Goals as goal

pub returns : goal.returns
returns c = broken_none c.files_have_one_map.ensures.one c.a_map_is_of_one_tree.ensures.alike c.the_rules_make_a_tree.ensures.rules
