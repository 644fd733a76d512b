-- The note of the ticket gets its mark.
use Rattle.std.proofs.Common.{sym}
use Rattle.engine_notes.proofs.Marks.{expected_set, noticed_set, tickets_set, expected_at}
use Rattle.engine_notes.proofs.Rising.{rising_set}
use Rattle.engine_notes.proofs.notes.mark_in.Goals as goal

pub returns-in-Some-clause-exact : goal.returns-in-Some-clause-exact
returns-in-Some-clause-exact c = sym (expected_at c.args.ticket c.args.notes.now.items c.in-Some.at c.in-Some.ensures.there.1 c.in-Some.ensures.there.3)

pub returns-in-Some-clause-rising : goal.returns-in-Some-clause-rising
returns-in-Some-clause-rising c = rising_set c.args.ticket c.args.notes.now.items c.in-Some.at c.in-Some.ensures.there.3 c.requires

pub returns-in-Some-clause-expected : goal.returns-in-Some-clause-expected
returns-in-Some-clause-expected c = λ u. expected_set c.args.ticket u c.args.notes.now.items c.in-Some.at c.in-Some.ensures.there.3

pub returns-in-Some-clause-noticed : goal.returns-in-Some-clause-noticed
returns-in-Some-clause-noticed c = λ u. noticed_set c.args.ticket u c.args.notes.now.items c.in-Some.at c.in-Some.ensures.there.1 c.in-Some.ensures.there.2 c.in-Some.ensures.there.3

pub returns-in-Some-clause-tickets : goal.returns-in-Some-clause-tickets
returns-in-Some-clause-tickets c = tickets_set c.args.ticket c.args.notes.now.items c.in-Some.at c.in-Some.ensures.there.3
