use Rattle.std.proofs.Common.{Some, sym, subst}
use Rattle.fs_files.specs.Calls.{files_in}
use Rattle.fs_files.specs.Drafts.{begun_beside, nothing_drafted}
use Rattle.fs_commands.specs.declared.paths.Spot.TheVariants.{Inside}
use Rattle.fs_files.specs.declared.look.FileFacts.{FileFacts}
use Rattle.fs_commands.specs.Looks.{ShowsFacts}
use Rattle.fs_session.specs.Sessions.{inodes}
use Rattle.fs_commands.proofs.moved.Known.{known_move, known_onto}
use Rattle.fs_commands.proofs.moving.a_move_is_known.Goals as goal

pub returns-clause-knows : goal.returns-clause-knows
returns-clause-knows g c = λ told from to source into count found other move.
    let files = files_in (g.S.Blocks.state c.args.blocks.now) nothing_drafted in
    known_move (g.S.Blocks.state c.args.blocks.now).books.geom.layout files from to source into count found other c.a_name_stands_at_its_place.ensures.found c.walks_are_the_same.ensures.ends
    (c.what_a_path_comes_to_gives_the_walk.ensures.number (g.S.Blocks.state c.args.blocks.now).books.geom.layout files) (c.what_a_path_comes_to_gives_the_walk.ensures.slots (g.S.Blocks.state c.args.blocks.now).books.geom.layout files) move

pub returns-clause-onto : goal.returns-clause-onto
returns-clause-onto g c = λ told t from to source target other h move known.
    let s = g.S.Blocks.state c.args.blocks.now in
    let files = files_in s nothing_drafted in
    let draft = c.a_draft_may_begin.ensures c.args.shared.now c.requires.begin in
    let map = c.blocks_have_the_map_of_their_tree.ensures.map s.books.geom s.map t h in
    let here = c.what_a_path_comes_to_gives_the_walk.ensures.number (g.S.Blocks.state c.args.blocks.now).books.geom.layout files from (Inside source.dir source.count (Some source.entry)) move.source_comes in
    let there = c.what_a_path_comes_to_gives_the_walk.ensures.number (g.S.Blocks.state c.args.blocks.now).books.geom.layout files to (Inside target.dir target.count (Some target.entry)) move.target_comes in
    let a = move.source_comes.4.facts in
    let b = move.target_comes.4.facts in
    let inode = map.shows.used to target.entry.node.number there in
    known_onto s from to source target other c.a_name_stands_at_its_place.ensures.found move known
    (subst (λ (f : FileFacts). ShowsFacts (inodes s) from f) (sym a.2)
    (c.the_node_at_a_path_gives_the_inode.ensures.facts s.books.geom.layout s.books.geom.i files t from source.entry.node.number a.0 map here a.1 (c.a_directory_has_whole_slots.ensures c.args.blocks.now (begun_beside c.args.shared.now) source.entry.node.number a.0 told draft a.1)))
    (subst (λ (f : FileFacts). ShowsFacts (inodes s) to f) (sym b.2)
    (c.the_node_at_a_path_gives_the_inode.ensures.facts s.books.geom.layout s.books.geom.i files t to target.entry.node.number b.0 map there b.1 (c.a_directory_has_whole_slots.ensures c.args.blocks.now (begun_beside c.args.shared.now) target.entry.node.number b.0 told draft b.1)))
    there inode.0 inode.1 (λ x is. c.a_file_fits_the_disk.ensures (begun_beside c.args.shared.now) target.entry.node.number x told draft is)
