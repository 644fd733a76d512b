use Rattle.crash_record.proofs.Runs.{front_none, front_step, front_whole}
use Rattle.crash_record.proofs.laws.runs_grow_by_the_next_record.Goals as goal

pub returns : goal.returns
returns c = λ img h. record {
  none = front_none img h;
  step = front_step img h;
  whole = front_whole img h;
}
