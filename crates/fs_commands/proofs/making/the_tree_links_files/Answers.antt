use Rattle.crash_stands.specs.Maps.{IsMapOf}
use Rattle.lang_tree.specs.Step.{Session}
use Rattle.engine_blocks.specs.State.{State}
use Rattle.fs_session.specs.Sessions.{IsSession, inodes}
use Rattle.fs_commands.proofs.naming.Accepting.{link_nowhere, link_refused, link_directory, link_many, link_too_long, link_made}
use Rattle.fs_commands.proofs.making.the_tree_links_files.Goals as goal

pub returns : goal.returns
returns g c =
    let map : (old : State) (f : Session) → IsSession old f → IsMapOf old.books.geom.i (inodes old) f.tree = λ old f h. c.blocks_have_the_map_of_their_tree.ensures.map old.books.geom old.map f.tree h.tree in
    let law = c.the_map_gives_the_refusal.ensures.refusal in
    let ends = c.walks_are_the_same.ensures.ends in
    let last = c.layouts_differ_in_long_names_alone.ensures.last in
    let comes = c.what_a_path_comes_to_gives_the_walk.ensures in
    record {
      nowhere = λ s f path other why h e. link_nowhere (g.S.Blocks.state s) f h (map (g.S.Blocks.state s) f h) law path other why e;
      refused = λ s f path other found why h walked e. link_refused (g.S.Blocks.state s) f h (map (g.S.Blocks.state s) f h) law path other ends found walked why e;
      directory = λ s f path other found v h walked e dir. link_directory (g.S.Blocks.state s) f h (map (g.S.Blocks.state s) f h) law path other ends found walked comes.parent comes.number v e dir;
      many = λ s f path other found v h walked e file most. link_many (g.S.Blocks.state s) f h (map (g.S.Blocks.state s) f h) law path other ends found walked comes.parent comes.number v e file most;
      long = λ s f path other found v h walked e file few long. link_too_long (g.S.Blocks.state s) f h (map (g.S.Blocks.state s) f h) law path other ends found walked comes.parent comes.number v e last file few long;
      accepted = λ s f path other found v h walked e file few short. link_made (g.S.Blocks.state s) f h (map (g.S.Blocks.state s) f h) law path other ends found walked comes.parent comes.number v e c.the_map_gives_the_figures.ensures.over comes.slots file few last short c.a_new_path_is_mapped.ensures.link;
    }
