-- Each pull brings the reading on, and an end is one of the whole reading.
use Rattle.std.proofs.Common.{arith}
use Rattle.std.proofs.lemmas.List.{length-take-le}
use Rattle.cmd_trace_reader.proofs.Pulling.{all_read, reading_refused}
use Rattle.cmd_trace_reader.proofs.input.read_all.Goals as goal

pub returns-in_err-more-clause-reads : goal.returns-in_err-more-clause-reads
returns-in_err-more-clause-reads g c = λ first a.
    let room = length-take-le c.min-room.result c.loop-count.chunk (omega (arith, c.min-room.ensures)) in
    reading_refused first _ _ c.in_err-more.field-0.0 c.from_residual.result c.from_residual.ensures.1
    (c.in_err-more.ensures.brings first c.loop-count.count (omega (arith, room, c.min-room.ensures, c.loop-count.invariant.within)) (c.loop-count.invariant.so_far first a))

pub returns-then-more-eq0-clause-reads : goal.returns-then-more-eq0-clause-reads
returns-then-more-eq0-clause-reads g c = λ first a.
    let room = length-take-le c.min-room.result c.loop-count.chunk (omega (arith, c.min-room.ensures)) in
    let came = c.in_ok-more.ensures.brings first c.loop-count.count (omega (arith, room, c.min-room.ensures, c.loop-count.invariant.within)) (c.loop-count.invariant.so_far first a) in
    all_read first _ _ _ (omega (arith, c.if-more-eq0.true, c.loop-count.invariant.within)) (came.1 c.if-more-eq0.true) came.0
