use Rattle.lang_log.specs.History.{opened_with}
use Rattle.example_queue.proofs.Opened.{same_reason}
use Rattle.example_queue.proofs.opening.open_log.Goals as goal

pub returns-in-Ok-clause-opened : goal.returns-in-Ok-clause-opened
returns-in-Ok-clause-opened g c = λ told t stood.
    let range = c.in-Ok.ensures.range told t stood.stands in
    (range.log, range.is, (c.in-Ok.ensures.goes told (opened_with range.log) (c.in-Ok.ensures.begins told t range.log stood range.is)).keeps)

pub returns-clause-refused : goal.returns-clause-refused
returns-clause-refused g c = λ told same t stands. c.in-Err.ensures.bad told (same_reason c.in-Err.why same) t stands
