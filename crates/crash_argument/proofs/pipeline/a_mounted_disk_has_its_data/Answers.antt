use Rattle.crash_argument.proofs.pipe.PipelineWrites.{knows_begins}
use Rattle.crash_argument.proofs.pipeline.a_mounted_disk_has_its_data.Goals as goal

pub returns : goal.returns
returns c = record { begins = knows_begins }
