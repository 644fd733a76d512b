use Rattle.engine_recover.proofs.Readings.{still_gives}
use Rattle.engine_recover.proofs.Finds.{spent_is, found_is}
use Rattle.engine_recover.proofs.find.find_run.Goals as goal

pub returns-then-is_spent-clause-refused : goal.returns-then-is_spent-clause-refused
returns-then-is_spent-clause-refused g c = λ img gives.
    let newest = rw c.in-Some.is at c.in-Ok.ensures.found img gives in
    let run = c.in-Ok-recoverable_run.ensures.run img (still_gives _ _ _ _ img c.newest_header.ensures.reads gives) in
    spent_is _ img c.in-Some.slot c.in-Some.header c.in-Ok-recoverable_run.records c.len.result c.is_spent.result newest run c.len.ensures c.is_spent.ensures c.if-is_spent.true

pub returns-clause-found : goal.returns-clause-found
returns-clause-found g c = λ img gives.
    let newest = rw c.in-Some.is at c.in-Ok.ensures.found img gives in
    let run = c.in-Ok-recoverable_run.ensures.run img (still_gives _ _ _ _ img c.newest_header.ensures.reads gives) in
    found_is _ img c.in-Some.slot c.in-Some.header c.in-Ok-recoverable_run.records newest run
