use Rattle.fs_memtree.proofs.laws.the_maps_are_lawful.Goals as goal

pub returns : goal.returns
returns c = record {
  one = c.a_map_is_of_one_tree.ensures.one;
  sound = c.a_map_is_of_one_tree.ensures.sound;
  alike = c.a_map_is_of_one_tree.ensures.alike;
  root = c.a_map_is_of_one_tree.ensures.root;
  small_start = c.files_stay_small.ensures.start;
  small_step = c.files_stay_small.ensures.step;
  same_limit = c.commands_keep_a_tree_sound.ensures.limit;
  refuses = c.the_map_gives_the_refusal.ensures.refusal;
  reply = c.the_map_gives_the_reply.ensures.reply;
  looks = c.the_map_gives_the_reply.ensures.looks;
  same_snapshots = c.commands_keep_snapshots.ensures.same;
  none_sound = c.without_snapshots_there_are_paths_and_nodes.ensures.sound;
  sound_snapshots = c.commands_keep_snapshots.ensures.sound;
  bytes = c.paths_lead_to_inodes.ensures.bytes;
  held = c.what_is_held_has_a_name.ensures.held;
  unlinked = c.what_goes_holds_nothing.ensures.unlinked;
  removed = c.what_goes_holds_nothing.ensures.removed;
  moved = c.what_goes_holds_nothing.ensures.moved;
  mkdir = c.names_may_be_in_any_order.ensures.mkdir;
  create = c.names_may_be_in_any_order.ensures.create;
  link = c.names_may_be_in_any_order.ensures.link;
  unlink = c.names_may_be_in_any_order.ensures.unlink;
  rmdir = c.names_may_be_in_any_order.ensures.rmdir;
  rename = c.names_may_be_in_any_order.ensures.rename;
  write = c.new_bytes_are_mapped.ensures.write;
  fill = c.new_bytes_are_mapped.ensures.fill;
  truncate = c.new_bytes_are_mapped.ensures.truncate;
}
