use Rattle.std.proofs.Common.{inl, inr, List, Result, Ok, Err, OnErr, subst, sym}
use Rattle.std.proofs.KnownBytes.{Appends-nil}
use Rattle.disk_contract.specs.declared.bay.Mark.{Mark}
use Rattle.fs_commands.specs.Opened.{blocks_in}
use Rattle.engine_store.specs.StoreOf.{state_of}
use Rattle.cmd_log.specs.Steps.{AnswersNext, SoFar}
use Rattle.cmd_log.proofs.running.Running.serve.Goals as goal

-- what holds in any case holds on a refusal
on_err : {T E P : Type 0} (r : Result T E) → P → OnErr r P
on_err (Ok x) p = tt
on_err (Err e) p = p

pub returns-clause-ok : goal.returns-clause-ok
returns-clause-ok g c = record {
  reply = c.answer-reply.result;
  answers = subst (λ (ms : List Mark). AnswersNext g.D.Disk.tells c.args.call.now c.answer-reply.result ms (state_of g.D.Disk.state (blocks_in c.args.self.now.logged.fs)) c.answer-reply.new.self.marks.items (state_of g.D.Disk.state (blocks_in c.answer-reply.new.self.logged.fs))) c.in_ok-reserve.ensures.items c.answer-reply.ensures.answers;
  took = c.in_ok-write_reply.ensures.all;
}

pub returns-in_err-reserve-clause-err : goal.returns-in_err-reserve-clause-err
returns-in_err-reserve-clause-err g c = on_err c.from_residual.result (inl (record {
  still = λ first calls replies h. subst (λ (ms : List Mark). SoFar g.D.Disk.tells first calls replies ms (state_of g.D.Disk.state (blocks_in c.args.self.now.logged.fs))) (sym c.in_err-reserve.ensures.items) h;
  took = Appends-nil (g.K.Sink.taken c.args.out.now);
}))

pub returns-in_err-write_reply-clause-err : goal.returns-in_err-write_reply-clause-err
returns-in_err-write_reply-clause-err g c = on_err c.from_residual-in_err-write_reply.result (inr (record {
  reply = c.answer-reply.result;
  answers = subst (λ (ms : List Mark). AnswersNext g.D.Disk.tells c.args.call.now c.answer-reply.result ms (state_of g.D.Disk.state (blocks_in c.args.self.now.logged.fs)) c.answer-reply.new.self.marks.items (state_of g.D.Disk.state (blocks_in c.answer-reply.new.self.logged.fs))) c.in_ok-reserve.ensures.items c.answer-reply.ensures.answers;
  took = c.in_err-write_reply.ensures.front;
}))
