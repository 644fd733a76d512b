use Rattle.std.proofs.Common.{Some, sym, subst}
use Rattle.fs_files.specs.declared.look.FileFacts.{FileFacts}
use Rattle.fs_files.specs.Calls.{files_in}
use Rattle.fs_files.specs.Drafts.{begun_beside, nothing_drafted}
use Rattle.fs_commands.specs.declared.paths.Spot.TheVariants.{Inside}
use Rattle.fs_commands.specs.Looks.{ShowsFacts}
use Rattle.fs_session.specs.Sessions.{inodes}
use Rattle.fs_commands.proofs.removing.what_stands_there_is_shown.Goals as goal

pub returns : goal.returns
returns g c = λ told t path dir count e h comes.
    let s = g.S.Blocks.state c.args.blocks.now in
    let files = files_in s nothing_drafted in
    let draft = c.a_draft_may_begin.ensures c.args.shared.now c.requires.begin in
    let leads = c.what_a_path_comes_to_gives_the_walk.ensures.number (g.S.Blocks.state c.args.blocks.now).books.geom.layout files path (Inside dir count (Some e)) comes in
    let x = comes.4.facts in
    subst (λ (f : FileFacts). ShowsFacts (inodes s) path f) (sym x.2)
    (c.the_node_at_a_path_gives_the_inode.ensures.facts s.books.geom.layout s.books.geom.i files t path e.node.number x.0 (c.blocks_have_the_map_of_their_tree.ensures.map s.books.geom s.map t h) leads x.1
    (c.a_directory_has_whole_slots.ensures c.args.blocks.now (begun_beside c.args.shared.now) e.node.number x.0 told draft x.1))
