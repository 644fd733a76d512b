use Rattle.lang_tree.specs.declared.command.Cmd.TheVariants.{Stat}
use Rattle.fs_commands.proofs.looking.Found.{draft_begun}
use Rattle.fs_commands.proofs.looking.Replies.{answers_begun}
use Rattle.fs_commands.proofs.look.stat.Goals as goal

pub stat_in-requires : goal.stat_in-requires
stat_in-requires g c = record {
  read = record {
    going = c.requires.begin.going;
    may = draft_begun g.S.Blocks.tells (g.S.Blocks.state c.args.blocks.now) c.beside-draft.result c.beside-draft.ensures c.requires.begin c.a_draft_may_begin.ensures;
  };
}

pub returns-clause-answer : goal.returns-clause-answer
returns-clause-answer g c = λ told.
    answers_begun (g.S.Blocks.state c.args.blocks.now) c.beside-draft.result (Stat c.args.path.now) c.stat_in.result c.beside-draft.ensures c.blocks_have_the_map_of_their_tree.ensures.map (c.stat_in.ensures.answer told)
