use Rattle.cmd_session.proofs.Damages.{stands_for_none}
use Rattle.cmd_session.proofs.images.a_damaged_image_stands_for_no_tree.Goals as goal

pub returns : goal.returns
returns c = stands_for_none (record {
  newest = c.an_image_holds_one_map.ensures.newest;
  runs = c.an_image_holds_one_map.ensures.runs;
  maps = c.an_image_holds_one_map.ensures.maps;
  bounds = c.journal_blocks_keep_to_their_bounds.ensures.headers;
  limits = λ g fits. (c.geometries_are_within_limits.ensures g).0 fits;
  blocks = c.broken_blocks_are_not_sound.ensures.tree;
  snapshot = c.no_tree_stands_where_a_snapshot_is_broken.ensures;
  tree = c.no_tree_stands_where_it_is_broken.ensures;
})
