use Rattle.std.proofs.Common.{option_map, ap, refl}
use Rattle.base_types.specs.Seal.{blocks_of}
use Rattle.disk_memory.specs.Logged.{event_of}
use Rattle.disk_memory.proofs.settled_places.SettledBytes.{bytes_zero, bytes_wrote, no_other, no_end, looked}
use Rattle.disk_memory.proofs.settled.settled_bytes.Goals as goal

pub returns-then-place-eq0-clause-bytes : goal.returns-then-place-eq0-clause-bytes
returns-then-place-eq0-clause-bytes c = λ moment settled.
    bytes_zero c.settled_is_the_newest_noticed.ensures.noticed c.settled_is_the_newest_noticed.ensures.none (blocks_of c.args.base.now) c.args.log.now.events moment c.args.block c.args.place c.block.result.now
    c.lawful.ensures.lawful c.if-place-eq0.true c.block.ensures.bytes settled

pub returns-in-Some-Wrote-clause-bytes : goal.returns-in-Some-Wrote-clause-bytes
returns-in-Some-Wrote-clause-bytes c = λ moment settled.
    bytes_wrote c.settled_is_the_newest_noticed.ensures.noticed c.settled_is_the_newest_noticed.ensures.none (blocks_of c.args.base.now) c.args.log.now.events moment c.args.block c.args.place (option_map event_of c.at.result)
    c.in-Some-Wrote.field-0-0 c.in-Some-Wrote.field-0-1 c.in-Some-Wrote.bytes.now c.lawful.ensures.lawful c.if-place-eq0.false c.at.ensures
    (looked c.at.result c.in-Some-Wrote.field-0 _ c.in-Some-Wrote.is c.in-Some-Wrote.field-0-is) settled

pub returns-in-Some-Lost-clause-bytes : goal.returns-in-Some-Lost-clause-bytes
returns-in-Some-Lost-clause-bytes c = λ moment settled.
    absurd (no_other c.settled_is_the_newest_noticed.ensures.noticed c.settled_is_the_newest_noticed.ensures.none (blocks_of c.args.base.now) c.args.log.now.events moment c.args.block c.args.place (option_map event_of c.at.result) _
    c.lawful.ensures.lawful c.if-place-eq0.false c.at.ensures
    (looked c.at.result c.in-Some-Lost.field-0 _ c.in-Some-Lost.is c.in-Some-Lost.field-0-is) refl settled)

pub returns-in-Some-Noticed-clause-bytes : goal.returns-in-Some-Noticed-clause-bytes
returns-in-Some-Noticed-clause-bytes c = λ moment settled.
    absurd (no_other c.settled_is_the_newest_noticed.ensures.noticed c.settled_is_the_newest_noticed.ensures.none (blocks_of c.args.base.now) c.args.log.now.events moment c.args.block c.args.place (option_map event_of c.at.result) _
    c.lawful.ensures.lawful c.if-place-eq0.false c.at.ensures
    (looked c.at.result c.in-Some-Noticed.field-0 _ c.in-Some-Noticed.is c.in-Some-Noticed.field-0-is) refl settled)

pub returns-in-None-clause-bytes : goal.returns-in-None-clause-bytes
returns-in-None-clause-bytes c = λ moment settled.
    absurd (no_end c.settled_is_the_newest_noticed.ensures.noticed c.settled_is_the_newest_noticed.ensures.none (blocks_of c.args.base.now) c.args.log.now.events moment c.args.block c.args.place (option_map event_of c.at.result)
    c.lawful.ensures.lawful c.if-place-eq0.false c.at.ensures (ap (option_map event_of) c.in-None.is) settled)
