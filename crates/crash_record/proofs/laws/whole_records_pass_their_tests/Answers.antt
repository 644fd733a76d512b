use Rattle.crash_record.proofs.Wholes.{whole_if, whole_payloads, whole_fresh, whole_described}
use Rattle.crash_record.proofs.laws.whole_records_pass_their_tests.Goals as goal

pub returns : goal.returns
returns c = λ img h r. record {
  is_whole = whole_if img h r;
  described = whole_described img h r;
  payloads = whole_payloads img h r;
  fresh = whole_fresh img h r;
}
