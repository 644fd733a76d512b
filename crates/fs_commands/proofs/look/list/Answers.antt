use Rattle.lang_tree.specs.declared.command.Cmd.TheVariants.{List as ListNames}
use Rattle.fs_commands.proofs.looking.Found.{draft_begun}
use Rattle.fs_commands.proofs.looking.Replies.{answers_begun}
use Rattle.fs_commands.proofs.look.list.Goals as goal

pub list_in-requires : goal.list_in-requires
list_in-requires g c = record {
  read = record {
    going = c.requires.begin.going;
    may = draft_begun g.S.Blocks.tells (g.S.Blocks.state c.args.blocks.now) c.beside-draft.result c.beside-draft.ensures c.requires.begin c.a_draft_may_begin.ensures;
  };
}

pub returns-clause-answer : goal.returns-clause-answer
returns-clause-answer g c = λ told.
    answers_begun (g.S.Blocks.state c.args.blocks.now) c.beside-draft.result (ListNames c.args.path.now) c.list_in.result c.beside-draft.ensures c.blocks_have_the_map_of_their_tree.ensures.map (c.list_in.ensures.answer told)
