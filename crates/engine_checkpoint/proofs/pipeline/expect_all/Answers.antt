-- Each turn expects one ticket more.
use Rattle.std.proofs.Common.{◌||◌, ℕ, List, ap, ◌∙◌, arith}
use Rattle.std.proofs.lemmas.Bool.Decides.{nat_tests}
use Rattle.std.proofs.lemmas.List.{take_all}
use Rattle.crash_argument.specs.HomeTest.{is_one_of}
use Rattle.engine_notes.specs.Notes.{is_expected}
use Rattle.engine_checkpoint.proofs.NoticeRows.{expect_push}
use Rattle.engine_checkpoint.proofs.pipeline.expect_all.Goals as goal

pub loop-ticket-preserved : goal.loop-ticket-preserved
loop-ticket-preserved c = grind (arith, nat_tests, expect_push)

pub returns-clause-expected : goal.returns-clause-expected
returns-clause-expected c = λ u. c.loop-ticket.invariant.expected u ∙ ap (λ (ts : List ℕ). is_one_of u ts || is_expected u c.args.notes.now.notes) (take_all c.loop-ticket.ticket-index c.args.tickets.now (omega (arith, c.loop-ticket-test.false)))
