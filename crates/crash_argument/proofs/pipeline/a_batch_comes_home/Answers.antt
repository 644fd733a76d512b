use Rattle.crash_argument.proofs.pipe.PipelineSteps.{knows_placed}
use Rattle.crash_argument.proofs.pipeline.a_batch_comes_home.Goals as goal

pub returns : goal.returns
returns c = record { knows = λ base log l p keeps k. knows_placed base log l keeps p k }
