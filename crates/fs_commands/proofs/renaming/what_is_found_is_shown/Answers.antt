use Rattle.fs_files.specs.Calls.{files_in}
use Rattle.fs_files.specs.Drafts.{nothing_drafted}
use Rattle.fs_commands.specs.declared.paths.Spot.TheVariants.{Inside}
use Rattle.fs_session.specs.Sessions.{inodes}
use Rattle.fs_commands.proofs.renamed.Found.{found_shown}
use Rattle.fs_commands.proofs.renaming.what_is_found_is_shown.Goals as goal

pub returns-clause-root : goal.returns-clause-root
returns-clause-root g c = λ t h. (c.blocks_have_the_map_of_their_tree.ensures.map (g.S.Blocks.state c.args.blocks.now).books.geom (g.S.Blocks.state c.args.blocks.now).map t h).root

pub returns-clause-entry : goal.returns-clause-entry
returns-clause-entry g c = λ told t path dir count found h comes.
    let s = g.S.Blocks.state c.args.blocks.now in
    let files = files_in s nothing_drafted in
    found_shown s.books.geom.layout files path dir count found comes (c.what_a_path_comes_to_gives_the_walk.ensures.number (g.S.Blocks.state c.args.blocks.now).books.geom.layout files path (Inside dir count found) comes)
    (λ e k. c.what_stands_there_is_shown.ensures told t path dir count e h k) c.a_name_stands_at_its_place.ensures.found
    (λ i slots slot at is. c.no_tree_stands_for_damage.ensures.names_root s.books.geom.i (inodes s) t dir i slots slot (c.blocks_have_the_map_of_their_tree.ensures.map s.books.geom s.map t h) at is)
