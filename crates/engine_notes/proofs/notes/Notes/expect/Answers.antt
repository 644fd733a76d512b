-- One ticket more, without a mark.
use Rattle.std.proofs.Common.{◌==◌, ◌||◌, ap, ◌∙◌}
use Rattle.engine_notes.specs.Notes.{Expected, is_expected, is_noticed, are_rising}
use Rattle.engine_notes.proofs.Rising.{rising_with, expected_with, noticed_with}
use Rattle.engine_notes.proofs.notes.Notes.expect.Goals as goal

pub invariant_of-self : goal.invariant_of-self
invariant_of-self c = ap are_rising c.put_in.ensures.items ∙ rising_with c.args.ticket c.self.inside.notes.items c.self.invariant

pub returns-clause-expected : goal.returns-clause-expected
returns-clause-expected c = λ u. ap (is_expected u) c.put_in.ensures.items ∙ expected_with c.args.ticket u c.self.inside.notes.items ∙ ap (λ (e : Expected). c.args.ticket == u || is_expected u e.notes) c.self.view_is

pub returns-clause-noticed : goal.returns-clause-noticed
returns-clause-noticed c = λ u. ap (is_noticed u) c.put_in.ensures.items ∙ noticed_with c.args.ticket u c.self.inside.notes.items c.self.invariant ∙ ap (λ (e : Expected). is_noticed u e.notes) c.self.view_is
