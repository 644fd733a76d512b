use Rattle.crash_argument.proofs.mount.IdleDisk.{idle_holds_map}
use Rattle.crash_argument.proofs.replaying.an_idle_disk_holds_what_is_settled.Goals as goal

pub returns : goal.returns
returns c = idle_holds_map c.the_journal_is_lawful.ensures
