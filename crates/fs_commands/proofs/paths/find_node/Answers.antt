use Rattle.fs_commands.proofs.looking.Found.{draft_begun, found_begun, there_begun}
use Rattle.fs_commands.proofs.paths.find_node.Goals as goal

pub find_in-requires : goal.find_in-requires
find_in-requires g c = record {
  read = record {
    going = c.requires.begin.going;
    may = draft_begun g.S.Blocks.tells (g.S.Blocks.state c.args.blocks.now) c.beside-draft.result c.beside-draft.ensures c.requires.begin c.a_draft_may_begin.ensures;
  };
}

pub returns-clause-found : goal.returns-clause-found
returns-clause-found g c = λ told.
    let s = g.S.Blocks.state c.args.blocks.now in
    found_begun s c.beside-draft.result c.args.path.now c.find_in.result c.beside-draft.ensures (λ t h. c.blocks_have_the_map_of_their_tree.ensures.map s.books.geom s.map t h) (c.find_in.ensures.found told)

pub returns-clause-there : goal.returns-clause-there
returns-clause-there g c = λ told. there_begun (g.S.Blocks.state c.args.blocks.now) c.beside-draft.result c.find_in.result c.beside-draft.ensures (c.find_in.ensures.there told)
