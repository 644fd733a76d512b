use Rattle.crash_argument.proofs.steps.Idle.{notice_idle}
use Rattle.crash_argument.proofs.pipe.BetweenSteps.{idle_wrote, idle_lost, idle_known, idle_header, idle_durable}
use Rattle.crash_argument.proofs.between.nothing_is_written_between_records.Goals as goal

pub returns : goal.returns
returns c = record { notice = notice_idle; accepted = idle_wrote; lost = idle_lost; known = idle_known; header = idle_header; durable = idle_durable }
