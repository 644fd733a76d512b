use Rattle.crash_argument.proofs.mount.Mounted.{mounted_safe}
use Rattle.crash_argument.proofs.points.a_mounted_disk_is_safe.Goals as goal

pub returns : goal.returns
returns c = mounted_safe c.the_journal_is_lawful.ensures
