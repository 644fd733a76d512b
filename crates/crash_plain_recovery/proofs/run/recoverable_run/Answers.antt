use Rattle.std.proofs.Common.{◌+◌, ap, sym, ◌∙◌}
use Rattle.base_types.specs.Seal.{blocks_of}
use Rattle.crash_plain_recovery.proofs.run.recoverable_run.Goals as goal

pub loop-run-preserved : goal.loop-run-preserved
loop-run-preserved c =
    let only = rw c.in-Some.is at c.in_ok-next.ensures in
    (c.runs_grow_by_the_next_record.ensures (blocks_of c.args.image.now) c.args.header.now).step c.loop-run.run c.push.new.self c.loop-run.place c.place_after-place.result c.loop-run.left c.places-left.result c.len.result c.in-Some.next
    c.loop-run.invariant only c.len.ensures c.in_ok-push.ensures c.place_after-place.ensures c.places-left.ensures

pub returns : goal.returns
returns c =
    let none = rw c.in_default.is at c.in_ok-next.ensures in
    (c.runs_grow_by_the_next_record.ensures (blocks_of c.args.image.now) c.args.header.now).whole c.loop-run.run c.loop-run.place c.loop-run.left c.loop-run.invariant
    (λ r number at. none r (number ∙ ap (λ n. c.args.header.now.start + n) (sym c.len.ensures)) at)
