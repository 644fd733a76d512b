-- Each turn takes one ticket out.
use Rattle.std.proofs.Common.{◌&&◌, ℕ, List, not, slice_index_or, ap, ◌∙◌, arith}
use Rattle.std.proofs.lemmas.List.{take_all}
use Rattle.engine_notes.specs.Notes.{is_expected, is_noticed, is_among, are_rising}
use Rattle.engine_notes.proofs.Rising.{rising_without, expected_without, noticed_without, without_more}
use Rattle.engine_notes.proofs.notes.take_all_out.Goals as goal

pub loop-ticket-preserved : goal.loop-ticket-preserved
loop-ticket-preserved c =
    let t = slice_index_or c.args.tickets.now c.loop-ticket.ticket-index 0 in
    let now = c.loop-ticket.notes.items in
    let before = c.loop-ticket.invariant in
    record {
      rising = ap are_rising c.take_out.ensures.items ∙ rising_without t now before.rising;
      expected = λ u. ap (is_expected u) c.take_out.ensures.items ∙ expected_without t u now before.rising ∙ without_more u c.args.tickets.now c.loop-ticket.ticket-index (is_expected u now) (is_expected u c.args.notes.now.items) c.loop-ticket-test.true (before.expected u);
      noticed = λ u. ap (is_noticed u) c.take_out.ensures.items ∙ noticed_without t u now before.rising ∙ without_more u c.args.tickets.now c.loop-ticket.ticket-index (is_noticed u now) (is_noticed u c.args.notes.now.items) c.loop-ticket-test.true (before.noticed u);
      capacity = c.take_out.ensures.capacity ∙ before.capacity;
    }

pub returns-clause-expected : goal.returns-clause-expected
returns-clause-expected c = λ u. c.loop-ticket.invariant.expected u ∙ ap (λ (ts : List ℕ). not (is_among u ts) && is_expected u c.args.notes.now.items) (take_all c.loop-ticket.ticket-index c.args.tickets.now (omega (arith, c.loop-ticket-test.false)))

pub returns-clause-noticed : goal.returns-clause-noticed
returns-clause-noticed c = λ u. c.loop-ticket.invariant.noticed u ∙ ap (λ (ts : List ℕ). not (is_among u ts) && is_noticed u c.args.notes.now.items) (take_all c.loop-ticket.ticket-index c.args.tickets.now (omega (arith, c.loop-ticket-test.false)))
