use Rattle.fs_commands.proofs.fs.Fs.apply.Goals as goal

pub returns-clause-answers : goal.returns-clause-answers
returns-clause-answers g c = λ told f h.
    c.a_command_answers_its_session.ensures.answers told c.args.self.now.blocks c.answer.new.blocks f c.args.cmd.now c.answer.result h c.answer.ensures.applies

pub returns-clause-time : goal.returns-clause-time
returns-clause-time g c = λ told.
    c.a_command_answers_its_session.ensures.time told c.args.self.now.blocks c.answer.new.blocks c.args.cmd.now c.answer.result c.answer.ensures.applies

pub returns-clause-stands : goal.returns-clause-stands
returns-clause-stands g c = λ told.
    c.a_command_answers_its_session.ensures.stands told c.args.self.now.blocks c.answer.new.blocks c.args.cmd.now c.answer.result (c.requires.stands told) c.answer.ensures.applies
