use Rattle.engine_running.proofs.spelling.Sizes.{record_size, all_counted, front_counted}
use Rattle.engine_running.proofs.laws.a_record_makes_so_many_writes.Goals as goal

pub returns : goal.returns
returns c = record { size = record_size; accepted = all_counted; failed = front_counted }
