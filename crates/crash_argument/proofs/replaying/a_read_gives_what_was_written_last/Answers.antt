use Rattle.crash_argument.proofs.log.LastReads.{accepted_is_latest, idle_reads}
use Rattle.crash_argument.proofs.replaying.a_read_gives_what_was_written_last.Goals as goal

pub returns : goal.returns
returns c = record { last = accepted_is_latest; idle = idle_reads }
