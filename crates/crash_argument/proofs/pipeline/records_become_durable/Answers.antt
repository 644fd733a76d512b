use Rattle.crash_argument.proofs.pipe.PipelineSteps.{durable_noticed, newly_noticed, knows_known}
use Rattle.crash_argument.proofs.pipeline.records_become_durable.Goals as goal

pub returns : goal.returns
returns c = record {
  noticed = λ base log l p number keeps k. durable_noticed base log l keeps p k number;
  newly = λ base log l p number keeps k. newly_noticed base log l keeps p k number;
  knows = λ base log l p number keeps k. knows_known base log l keeps p k number;
}
