-- What was copied is as the copying of the image says, and then the line of its answer was told.
use Rattle.std.proofs.Common.{Result, Err, refl, sym, ap, ◌∙◌, subst}
use Rattle.cmd_image.specs.declared.make_refusal.MakeRefusal.{MakeRefusal}
use Rattle.cmd_program.specs.Making.{EndsMaking}
use Rattle.cmd_program.specs.declared.status.Status.TheVariants.{Done, NoMemory}
use Rattle.cmd_program.proofs.Requests.{behind}
use Rattle.cmd_program.proofs.copying.copy.Goals as goal

pub returns-in-Ok-clause-copies : goal.returns-in-Ok-clause-copies
returns-in-Ok-clause-copies g c = λ left source. record {
  answer = c.copy_image.result;
  copied = c.copy_image.ensures.copied;
  part = c.copy_image.ensures.part;
  kept = c.copy_image.ensures.kept;
  others = c.copy_image.ensures.others;
  back = c.copy_image.ensures.comes;
  cause = c.copy_image.ensures.cause;
  reason = c.copy_image.ensures.reason;
  ends = subst (λ (a : Result (Unit {0}) MakeRefusal). EndsMaking a Done (g.K.Sink.taken c.args.out.now) (g.K.Sink.taken c.args.out.now)) (sym c.in-Ok.is) (refl, refl);
}

pub returns-in-Err-Fault-clause-copies : goal.returns-in-Err-Fault-clause-copies
returns-in-Err-Fault-clause-copies g c = λ left source. record {
  answer = c.copy_image.result;
  copied = c.copy_image.ensures.copied;
  part = c.copy_image.ensures.part;
  kept = c.copy_image.ensures.kept;
  others = c.copy_image.ensures.others;
  back = c.copy_image.ensures.comes;
  cause = c.copy_image.ensures.cause;
  reason = c.copy_image.ensures.reason;
  ends = subst (λ (a : Result (Unit {0}) MakeRefusal). EndsMaking a c.tell.result (g.K.Sink.taken c.args.out.now) (g.K.Sink.taken c.tell.new.out))
      (sym (c.in-Err-Fault.is ∙ ap Err c.in-Err-Fault.field-0-is)) (behind _ _ _ _ _ _ _ c.tell.ensures.told);
}

pub returns-in-Err-NoMemory-clause-copies : goal.returns-in-Err-NoMemory-clause-copies
returns-in-Err-NoMemory-clause-copies g c = λ left source. record {
  answer = c.copy_image.result;
  copied = c.copy_image.ensures.copied;
  part = c.copy_image.ensures.part;
  kept = c.copy_image.ensures.kept;
  others = c.copy_image.ensures.others;
  back = c.copy_image.ensures.comes;
  cause = c.copy_image.ensures.cause;
  reason = c.copy_image.ensures.reason;
  ends = subst (λ (a : Result (Unit {0}) MakeRefusal). EndsMaking a NoMemory (g.K.Sink.taken c.args.out.now) (g.K.Sink.taken c.args.out.now))
      (sym (c.in-Err-NoMemory.is ∙ ap Err c.in-Err-NoMemory.field-0-is)) (refl, refl);
}
