use Rattle.fs_commands.proofs.removed.Accepted.{known_loss}
use Rattle.fs_files.specs.Calls.{files_in}
use Rattle.fs_files.specs.Drafts.{begun_beside, nothing_drafted}
use Rattle.std.proofs.Common.{Some}
use Rattle.fs_commands.specs.declared.paths.Spot.TheVariants.{Inside}
use Rattle.fs_commands.proofs.removing.what_goes_is_known.Goals as goal

pub returns : goal.returns
returns g c = λ told t kind path n h loss.
    let s = g.S.Blocks.state c.args.blocks.now in
    let files = files_in s nothing_drafted in
    let draft = c.a_draft_may_begin.ensures c.args.shared.now c.requires.begin in
    let leads = c.what_a_path_comes_to_gives_the_walk.ensures.number (g.S.Blocks.state c.args.blocks.now).books.geom.layout files path (Inside n.dir n.count (Some n.entry)) loss.comes in
    let map = c.blocks_have_the_map_of_their_tree.ensures.map s.books.geom s.map t h in
    let inode = map.shows.used path n.entry.node.number leads in
    known_loss kind s.books.geom.layout files path n loss c.a_name_stands_at_its_place.ensures.found c.walks_are_the_same.ensures.ends
    (c.what_a_path_comes_to_gives_the_walk.ensures.slots (g.S.Blocks.state c.args.blocks.now).books.geom.layout files path n.dir n.count (Some n.entry) loss.comes) leads inode.0 inode.1
    (λ x is. c.the_node_at_a_path_gives_the_inode.ensures.facts s.books.geom.layout s.books.geom.i files t path n.entry.node.number x map leads is
    (c.a_directory_has_whole_slots.ensures c.args.blocks.now (begun_beside c.args.shared.now) n.entry.node.number x told draft is))
    (λ x is. c.a_file_fits_the_disk.ensures (begun_beside c.args.shared.now) n.entry.node.number x told draft is)
