use Rattle.lang_log.proofs.Made.{lies_at, next_behind}
use Rattle.lang_log.proofs.log_laws.an_append_lies_in_its_segment.Goals as goal

pub returns-clause-number : goal.returns-clause-number
returns-clause-number c = lies_at

pub returns-clause-next : goal.returns-clause-next
returns-clause-next c = next_behind
