-- What was made is as the making of the image says, and then the line of its answer was told.
use Rattle.std.proofs.Common.{Result, Err, refl, sym, ap, ◌∙◌, subst}
use Rattle.cmd_image.specs.declared.make_refusal.MakeRefusal.{MakeRefusal}
use Rattle.cmd_program.specs.Making.{EndsMaking}
use Rattle.cmd_program.specs.declared.status.Status.TheVariants.{Done, NoMemory}
use Rattle.cmd_program.proofs.Requests.{behind}
use Rattle.cmd_program.proofs.making.make_fitting.Goals as goal

pub returns-in-Ok-clause-makes : goal.returns-in-Ok-clause-makes
returns-in-Ok-clause-makes g c = λ left source. record {
  answer = c.make_image.result;
  made = c.make_image.ensures.made;
  back = c.make_image.ensures.back;
  others = c.make_image.ensures.others;
  cause = c.make_image.ensures.cause;
  reason = c.make_image.ensures.reason;
  ends = subst (λ (a : Result (Unit {0}) MakeRefusal). EndsMaking a Done (g.K.Sink.taken c.args.out.now) (g.K.Sink.taken c.args.out.now)) (sym c.in-Ok.is) (refl, refl);
}

pub returns-in-Err-Fault-clause-makes : goal.returns-in-Err-Fault-clause-makes
returns-in-Err-Fault-clause-makes g c = λ left source. record {
  answer = c.make_image.result;
  made = c.make_image.ensures.made;
  back = c.make_image.ensures.back;
  others = c.make_image.ensures.others;
  cause = c.make_image.ensures.cause;
  reason = c.make_image.ensures.reason;
  ends = subst (λ (a : Result (Unit {0}) MakeRefusal). EndsMaking a c.tell.result (g.K.Sink.taken c.args.out.now) (g.K.Sink.taken c.tell.new.out))
      (sym (c.in-Err-Fault.is ∙ ap Err c.in-Err-Fault.field-0-is)) (behind _ _ _ _ _ _ _ c.tell.ensures.told);
}

pub returns-in-Err-NoMemory-clause-makes : goal.returns-in-Err-NoMemory-clause-makes
returns-in-Err-NoMemory-clause-makes g c = λ left source. record {
  answer = c.make_image.result;
  made = c.make_image.ensures.made;
  back = c.make_image.ensures.back;
  others = c.make_image.ensures.others;
  cause = c.make_image.ensures.cause;
  reason = c.make_image.ensures.reason;
  ends = subst (λ (a : Result (Unit {0}) MakeRefusal). EndsMaking a NoMemory (g.K.Sink.taken c.args.out.now) (g.K.Sink.taken c.args.out.now))
      (sym (c.in-Err-NoMemory.is ∙ ap Err c.in-Err-NoMemory.field-0-is)) (refl, refl);
}
