use Rattle.crash_record.proofs.Passing.{first_alone}
use Rattle.crash_record.proofs.order.first_names.Goals as goal

pub returns-in-len1-up : goal.returns-in-len1-up
returns-in-len1-up c = λ high up. first_alone c.args.entries.now _ c.args.block high c.in-len1-up.len_at_least up
