use Rattle.crash_argument.proofs.mount.Mounted.{safe_holds, safe_last}
use Rattle.crash_argument.proofs.points.all_issued_is_the_last_point.Goals as goal

pub returns : goal.returns
returns c = record { held = safe_holds c.the_journal_is_lawful.ensures; last = safe_last }
