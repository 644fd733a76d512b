use Rattle.std.proofs.Common.{List, subst}
use Rattle.disk_contract.specs.declared.bay.Mark.{Mark}
use Rattle.fs_commands.specs.Opened.{blocks_in}
use Rattle.engine_store.specs.StoreOf.{state_of}
use Rattle.cmd_image.specs.Steps.{AnswersNext}
use Rattle.cmd_image.proofs.running.Running.serve.Goals as goal

pub returns-clause-ok : goal.returns-clause-ok
returns-clause-ok g c = record {
  reply = c.answer-reply.result;
  answers = subst (λ (ms : List Mark). AnswersNext g.D.Disk.tells c.args.cmd.now c.answer-reply.result ms (state_of g.D.Disk.state (blocks_in c.args.self.now.served)) c.answer-reply.new.self.marks.items (state_of g.D.Disk.state (blocks_in c.answer-reply.new.self.served))) c.in_ok-reserve.ensures.items c.answer-reply.ensures.answers;
  took = c.in_ok-write_reply.ensures.all;
}
