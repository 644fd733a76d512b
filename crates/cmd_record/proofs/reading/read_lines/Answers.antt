-- Each turn goes on, and no input has a command for each.
use Rattle.std.proofs.Common.{Ok, Option, ap, ◌∙◌, arith}
use Rattle.cmd_record.specs.declared.reading.Ending.{Ending}
use Rattle.cmd_record.proofs.ReadingLemmas.{first_serving, next_ends, next_serving, next_stops, no_memory, no_more, not_begun, stopped_before}
use Rattle.cmd_record.proofs.reading.read_lines.Goals as goal

pub returns-in_err-reader-clause-err : goal.returns-in_err-reader-clause-err
returns-in_err-reader-clause-err g c = not_begun _ _ _ _

pub returns-in_err-reader-clause-cause : goal.returns-in_err-reader-clause-cause
returns-in_err-reader-clause-cause g c = no_memory _ _ c.from_residual.ensures.1

pub loop-init : goal.loop-init
loop-init g c = first_serving _ _ _ _ _ c.in_ok-reader.reader (record { first = c.all_was_given.ensures.first; end = c.all_was_given.ensures.end; whole = c.all_was_given.ensures.whole; front = c.all_was_given.ensures.front; few = c.all_was_given.ensures.few }) c.in_ok-reader.ensures

pub loop-preserved : goal.loop-preserved
loop-preserved g c =
    next_serving c.loop.counter _ _ _ _ _ _ _ _ _ _ _ _ _ _ _ _ c.loop.invariant c.serve_next.result c.serve_next.ensures.turns _
    (c.in_ok-ending.was ∙ ap Ok c.in_default.is) c.serve_next.ensures.gives c.serve_next.ensures.source (omega (arith, c.in_ok-ending.ensures.cause))

pub unreachable-requires : goal.unreachable-requires
unreachable-requires g c = no_more (record { first = c.all_was_given.ensures.first; end = c.all_was_given.ensures.end; whole = c.all_was_given.ensures.whole; front = c.all_was_given.ensures.front; few = c.all_was_given.ensures.few }) _ c.loop.counter c.loop.invariant.gives (omega (arith, c.loop-test.false))

pub returns-in-Some-clause-ok : goal.returns-in-Some-clause-ok
returns-in-Some-clause-ok g c = next_ends c.loop.counter _ _ _ _ _ _ _ _ _ _ _ _ _ _ _ _ c.loop.invariant c.serve_next.result c.serve_next.ensures.turns c.in-Some.ending (c.in_ok-ending.was ∙ ap Ok c.in-Some.is)

pub returns-in_err-ending-clause-err : goal.returns-in_err-ending-clause-err
returns-in_err-ending-clause-err g c = next_stops c.loop.counter _ _ _ _ _ _ _ _ _ _ _ _ _ _ _ _ c.loop.invariant c.serve_next.result c.serve_next.ensures.turns c.in_err-ending.field-0.0 c.from_residual-in_err-ending.result c.in_err-ending.was

pub returns-in_err-ending-clause-cause : goal.returns-in_err-ending-clause-cause
returns-in_err-ending-clause-cause g c = stopped_before _ (Option Ending) _ _ _ _ _ c.from_residual-in_err-ending.ensures.1 c.loop.invariant.sink c.in_err-ending.ensures.cause
