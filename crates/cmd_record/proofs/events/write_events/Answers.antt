-- Each event's line comes behind those before it; where the sink fails in one, it has a front of them all.
use Rattle.std.proofs.Common.{option_map, sym, ap, ◌∙◌, arith}
use Rattle.disk_memory.specs.Logged.{event_of}
use Rattle.cmd_record.proofs.EventLines.{written_more, written_cut, written_all}
use Rattle.cmd_record.proofs.events.write_events.Goals as goal

pub loop-place-preserved : goal.loop-place-preserved
loop-place-preserved g c = written_more _ _ _ _ _ _ _ _ _ _ (sym c.event.ensures ∙ ap (option_map event_of) c.in-Some.is) c.loop-place.invariant c.in_ok-write_logged-in-Some.ensures.all c.in_ok-write_logged-in-Some.ensures.cause.1

pub returns-clause-all : goal.returns-clause-all
returns-clause-all g c = written_all _ _ _ _ _ _ _ (omega (arith, c.loop-place-test.false, c.moment-place-end.ensures)) c.loop-place.invariant

pub returns-in_err-write_logged-in-Some-clause-front : goal.returns-in_err-write_logged-in-Some-clause-front
returns-in_err-write_logged-in-Some-clause-front g c = written_cut _ _ _ _ _ _ _ _ _ _ _ (sym c.event.ensures ∙ ap (option_map event_of) c.in-Some.is) c.loop-place.invariant c.in_err-write_logged-in-Some.ensures.front.1
