use Rattle.cmd_record.proofs.Quiet.{consistent}
use Rattle.cmd_record.proofs.laws.a_disk_at_rest_is_crash_consistent.Goals as goal

pub returns : goal.returns
returns c = consistent c.images_alike_below_n_stand_for_the_same.ensures
