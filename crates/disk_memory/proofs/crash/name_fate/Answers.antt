use Rattle.std.proofs.Common.{true, false, length, Some, None, sym, ap}
use Rattle.std.proofs.lemmas.Option.{slice_get-get_or}
use Rattle.disk_memory.specs.Logged.{event_of}
use Rattle.disk_memory.specs.Crash.{pending_answer}
use Rattle.disk_memory.proofs.crash_images.FateFound.{unknown, to_come, answered, named_there}
use Rattle.disk_memory.proofs.crash.name_fate.Goals as goal
use Rattle.disk_memory.proofs.log_rows.Events.{one_within}

pub returns-in_default-clause-answer : goal.returns-in_default-clause-answer
returns-in_default-clause-answer c = ap (pending_answer c.args.named.write) (sym (unknown _ _ _ c.in_default.ensures.none))

pub returns-then-place-fates-clause-answer : goal.returns-then-place-fates-clause-answer
returns-then-place-fates-clause-answer c = ap (pending_answer c.args.named.write) (sym (to_come _ _ _ _ c.requires.lawful c.in-Some.ensures.there c.if-place-fates.true))

pub is_pending_at-requires : goal.is_pending_at-requires
is_pending_at-requires c = one_within (length c.args.places.now) c.args.log.now.events c.in-Some.place (event_of c.event.result) c.requires.within c.event.ensures

-- whether the named write is pending is described by the event of its place
pub returns-then-not-is_pending_at-clause-answer : goal.returns-then-not-is_pending_at-clause-answer
returns-then-not-is_pending_at-clause-answer c = answered (length c.args.places.now) c.args.log.now.events c.args.places.now (length c.args.fates.now) c.in-Some.place (event_of c.event.result) c.args.named.write false
    c.requires.lawful c.requires.within c.requires.places c.event.ensures c.in-Some.ensures.there c.if-place-fates.false c.if-not-is_pending_at.ensures

pub returns-clause-answer : goal.returns-clause-answer
returns-clause-answer c = answered (length c.args.places.now) c.args.log.now.events c.args.places.now (length c.args.fates.now) c.in-Some.place (event_of c.event.result) c.args.named.write true
    c.requires.lawful c.requires.within c.requires.places c.event.ensures c.in-Some.ensures.there c.if-place-fates.false c.if-not-is_pending_at.ensures

pub returns-clause-fates : goal.returns-clause-fates
returns-clause-fates c = λ all said were. named_there c.args.log.now.events (length c.args.fates.now) c.in-Some.place all said c.args.fates.now c.args.named.write c.args.named.fate _ (Some c.joined.result)
    c.requires.lawful were c.in-Some.ensures.there c.if-place-fates.false (slice_get-get_or c.args.fates.now c.in-Some.place None c.if-place-fates.false) c.joined.ensures
