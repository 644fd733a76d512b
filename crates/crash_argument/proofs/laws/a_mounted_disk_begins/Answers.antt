use Rattle.crash_argument.proofs.steps.Idle.{begins_idle}
use Rattle.crash_argument.proofs.steps.PointSteps.{begins}
use Rattle.crash_argument.proofs.laws.a_mounted_disk_begins.Goals as goal

pub returns : goal.returns
returns c = record { begins = begins; idle = begins_idle }
