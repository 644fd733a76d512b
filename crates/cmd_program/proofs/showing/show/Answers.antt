-- What was shown is as the showing of the image says, and then the line of its answer was told.
use Rattle.std.proofs.Common.{Result, Err, refl, sym, ap, ◌∙◌, subst}
use Rattle.cmd_image.specs.declared.show_refusal.ShowRefusal.{ShowRefusal}
use Rattle.cmd_program.specs.Showing.{EndsShowing}
use Rattle.cmd_program.specs.declared.status.Status.TheVariants.{Done}
use Rattle.cmd_program.proofs.Requests.{behind}
use Rattle.cmd_program.proofs.showing.show.Goals as goal

pub returns-in-Ok-clause-shows : goal.returns-in-Ok-clause-shows
returns-in-Ok-clause-shows g c = λ left source. record {
  answer = c.show_tree.result;
  between = g.K.Sink.taken c.show_tree.new.out;
  shown = c.show_tree.ensures.shown;
  refused = c.show_tree.ensures.refused;
  silent = λ e. ap g.K.Sink.taken (c.show_tree.ensures.silent e);
  back = c.show_tree.ensures.back;
  cause = c.show_tree.ensures.cause;
  reason = c.show_tree.ensures.reason;
  ends = subst (λ (a : Result (Unit {0}) ShowRefusal). EndsShowing a Done (g.K.Sink.taken c.show_tree.new.out) (g.K.Sink.taken c.show_tree.new.out)) (sym c.in-Ok.is) (refl, refl);
}

pub returns-in-Err-Fault-clause-shows : goal.returns-in-Err-Fault-clause-shows
returns-in-Err-Fault-clause-shows g c = λ left source. record {
  answer = c.show_tree.result;
  between = g.K.Sink.taken c.show_tree.new.out;
  shown = c.show_tree.ensures.shown;
  refused = c.show_tree.ensures.refused;
  silent = λ e. ap g.K.Sink.taken (c.show_tree.ensures.silent e);
  back = c.show_tree.ensures.back;
  cause = c.show_tree.ensures.cause;
  reason = c.show_tree.ensures.reason;
  ends = subst (λ (a : Result (Unit {0}) ShowRefusal). EndsShowing a c.tell.result (g.K.Sink.taken c.show_tree.new.out) (g.K.Sink.taken c.tell.new.out))
      (sym (c.in-Err-Fault.is ∙ ap Err c.in-Err-Fault.field-0-is)) (behind _ _ _ _ _ _ _ c.tell.ensures.told);
}

pub returns-in-Err-Damaged-clause-shows : goal.returns-in-Err-Damaged-clause-shows
returns-in-Err-Damaged-clause-shows g c = λ left source. record {
  answer = c.show_tree.result;
  between = g.K.Sink.taken c.show_tree.new.out;
  shown = c.show_tree.ensures.shown;
  refused = c.show_tree.ensures.refused;
  silent = λ e. ap g.K.Sink.taken (c.show_tree.ensures.silent e);
  back = c.show_tree.ensures.back;
  cause = c.show_tree.ensures.cause;
  reason = c.show_tree.ensures.reason;
  ends = subst (λ (a : Result (Unit {0}) ShowRefusal). EndsShowing a c.tell-in-Err-Damaged.result (g.K.Sink.taken c.show_tree.new.out) (g.K.Sink.taken c.tell-in-Err-Damaged.new.out))
      (sym (c.in-Err-Damaged.is ∙ ap Err c.in-Err-Damaged.field-0-is)) (behind _ _ _ _ _ _ _ c.tell-in-Err-Damaged.ensures.told);
}
