use Rattle.std.proofs.Common.{◌∙◌, ap, arith, length, Some}
use Rattle.disk_memory.specs.Logged.{event_of}
use Rattle.disk_memory.proofs.crash.put_event.Goals as goal
use Rattle.disk_memory.proofs.log_rows.Events.{write_within, lost_within}

pub bounds-places-block : goal.bounds-places-block
bounds-places-block c =
    omega (arith, c.requires.places, write_within (length c.args.base.now) c.args.log.now.events c.args.place _ c.in-Wrote.block _ c.requires.within (c.event.ensures ∙ ap (λ e. Some (event_of e)) c.in-Wrote.is))

pub settled_bytes-settled-requires : goal.settled_bytes-settled-requires
settled_bytes-settled-requires c = write_within (length c.args.base.now) c.args.log.now.events c.args.place _ c.in-Wrote.block _ c.requires.within (c.event.ensures ∙ ap (λ e. Some (event_of e)) c.in-Wrote.is)

pub put_write-requires : goal.put_write-requires
put_write-requires c =
    omega (arith, c.requires.size, write_within (length c.args.base.now) c.args.log.now.events c.args.place _ c.in-Wrote.block _ c.requires.within (c.event.ensures ∙ ap (λ e. Some (event_of e)) c.in-Wrote.is))

pub bounds-places-block-in-Lost : goal.bounds-places-block-in-Lost
bounds-places-block-in-Lost c =
    omega (arith, c.requires.places, lost_within (length c.args.base.now) c.args.log.now.events c.args.place c.in-Lost.block _ c.requires.within (c.event.ensures ∙ ap (λ e. Some (event_of e)) c.in-Lost.is))

pub settled_bytes-settled-requires-then-settled-place-2 : goal.settled_bytes-settled-requires-then-settled-place-2
settled_bytes-settled-requires-then-settled-place-2 c = lost_within (length c.args.base.now) c.args.log.now.events c.args.place c.in-Lost.block _ c.requires.within (c.event.ensures ∙ ap (λ e. Some (event_of e)) c.in-Lost.is)

pub put_write-requires-then-settled-place-2 : goal.put_write-requires-then-settled-place-2
put_write-requires-then-settled-place-2 c =
    omega (arith, c.requires.size, lost_within (length c.args.base.now) c.args.log.now.events c.args.place c.in-Lost.block _ c.requires.within (c.event.ensures ∙ ap (λ e. Some (event_of e)) c.in-Lost.is))
