use Rattle.crash_stands.specs.Maps.{IsMapOf}
use Rattle.lang_tree.specs.Step.{Session}
use Rattle.engine_blocks.specs.State.{State}
use Rattle.fs_session.specs.Sessions.{IsSession, inodes}
use Rattle.fs_commands.proofs.naming.Accepting.{node_refused, no_node_left, name_too_long, node_accepted, node_mapped}
use Rattle.fs_commands.proofs.making.the_tree_makes_nodes.Goals as goal

pub returns : goal.returns
returns g c =
    let map : (old : State) (f : Session) → IsSession old f → IsMapOf old.books.geom.i (inodes old) f.tree = λ old f h. c.blocks_have_the_map_of_their_tree.ensures.map old.books.geom old.map f.tree h.tree in
    let law = c.the_map_gives_the_refusal.ensures.refusal in
    let ends = c.walks_are_the_same.ensures.ends in
    let comes = c.what_a_path_comes_to_gives_the_walk.ensures in
    let last = c.layouts_differ_in_long_names_alone.ensures.last in
    let least = c.counts_tell_what_is_shared.ensures.least in
    record {
      refused = λ s f kind path why h e. node_refused (g.S.Blocks.state s) f h (map (g.S.Blocks.state s) f h) law kind path why e;
      no_node = λ s f kind path v h e none. no_node_left (g.S.Blocks.state s) f h (map (g.S.Blocks.state s) f h) law kind path comes.parent comes.number (least s f h) v e none;
      long = λ s f kind path v node h e is long. name_too_long (g.S.Blocks.state s) f h (map (g.S.Blocks.state s) f h) law kind path comes.parent comes.number (least s f h) v e last node is long;
      accepted = λ s f kind path v node h e is short. node_accepted (g.S.Blocks.state s) f h (map (g.S.Blocks.state s) f h) law kind path comes.parent comes.number (least s f h) v e c.the_map_gives_the_figures.ensures.over ends comes.slots last node is short;
      map = λ s new f kind path v node h e is short adds. node_mapped (g.S.Blocks.state s) f h (map (g.S.Blocks.state s) f h) law kind path comes.parent comes.number (least s f h) v e ends c.a_new_node_is_mapped.ensures.mkdir c.a_new_node_is_mapped.ensures.create new node
          (node_accepted (g.S.Blocks.state s) f h (map (g.S.Blocks.state s) f h) law kind path comes.parent comes.number (least s f h) v e c.the_map_gives_the_figures.ensures.over ends comes.slots last node is short).accepted is adds;
    }
