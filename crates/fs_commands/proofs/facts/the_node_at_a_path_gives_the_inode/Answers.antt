use Rattle.fs_commands.proofs.looking.Facts.{inode_is, facts_shown}
use Rattle.fs_commands.proofs.facts.the_node_at_a_path_gives_the_inode.Goals as goal

pub returns : goal.returns
returns c = record {
  inode = inode_is;
  facts = λ l limit files t path k x map leads is whole.
      let used = map.shows.used path k leads in
      facts_shown l files path k x used.0 leads is used.1 (c.slots_follow_the_bytes.ensures.count l x) whole;
}
