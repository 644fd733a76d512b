use Rattle.lang_tree.specs.declared.command.Cmd.TheVariants.{Read}
use Rattle.fs_commands.proofs.looking.Found.{draft_begun}
use Rattle.fs_commands.proofs.looking.Replies.{answers_begun}
use Rattle.fs_commands.proofs.look.read.Goals as goal

pub read_in-requires : goal.read_in-requires
read_in-requires g c = record {
  read = record {
    going = c.requires.begin.going;
    may = draft_begun g.S.Blocks.tells (g.S.Blocks.state c.args.blocks.now) c.beside-draft.result c.beside-draft.ensures c.requires.begin c.a_draft_may_begin.ensures;
  };
}

pub returns-clause-answer : goal.returns-clause-answer
returns-clause-answer g c = λ told.
    answers_begun (g.S.Blocks.state c.args.blocks.now) c.beside-draft.result (Read c.args.path.now c.args.offset c.args.len) c.read_in.result c.beside-draft.ensures c.blocks_have_the_map_of_their_tree.ensures.map (c.read_in.ensures.answer told)
