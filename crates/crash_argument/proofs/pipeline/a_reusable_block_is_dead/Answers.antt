use Rattle.crash_argument.proofs.pipe.PipelineSteps.{reusable_dead}
use Rattle.crash_argument.proofs.pipeline.a_reusable_block_is_dead.Goals as goal

pub returns : goal.returns
returns c = record { dead = λ base log l p b keeps k. reusable_dead base log l keeps p k b }
