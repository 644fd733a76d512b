use Rattle.std.proofs.Common.{◌+◌, ◌∷◌, [], length, length-append, ap, sym, ◌∙◌, arith, List}
use Rattle.layout_journal.specs.Run.{Record}
use Rattle.engine_recover.proofs.Readings.{read_on, still_gives}
use Rattle.engine_recover.proofs.run.recoverable_run.Goals as goal

pub loop-run-preserved : goal.loop-run-preserved
loop-run-preserved g c =
    let within = rw c.in-Some.is at c.in_ok-next.ensures.within in
    record {
      only = read_on _ _ _ _ _ c.loop-run.invariant.only c.in_ok-next.ensures.reads;
      room = omega (arith, c.loop-run.invariant.room, within, c.places-left.ensures, ap (λ (l : List Record). length l) c.in_ok-push.ensures, length-append c.loop-run.run (c.in-Some.next ∷ []));
      front = λ img gives.
          let only = rw c.in-Some.is at c.in_ok-next.ensures.found img (still_gives _ _ _ _ img c.loop-run.invariant.only gives) in
          (c.runs_grow_by_the_next_record.ensures img c.args.header.now).step c.loop-run.run c.push.new.self c.loop-run.place c.place_after-place.result c.loop-run.left c.places-left.result c.len.result c.in-Some.next
          (c.loop-run.invariant.front img gives) only c.len.ensures c.in_ok-push.ensures c.place_after-place.ensures c.places-left.ensures;
    }

pub returns-clause-run : goal.returns-clause-run
returns-clause-run g c = λ img gives.
    let none = rw c.in_default.is at c.in_ok-next.ensures.found img (still_gives _ _ _ _ img c.loop-run.invariant.only gives) in
    (c.runs_grow_by_the_next_record.ensures img c.args.header.now).whole c.loop-run.run c.loop-run.place c.loop-run.left (c.loop-run.invariant.front img gives)
    (λ r number at. none r (number ∙ ap (λ n. c.args.header.now.start + n) (sym c.len.ensures)) at)
