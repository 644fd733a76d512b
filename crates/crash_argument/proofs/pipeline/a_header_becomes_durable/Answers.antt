use Rattle.crash_argument.proofs.pipe.PipelineSteps.{header_durable, knows_turned}
use Rattle.crash_argument.proofs.pipeline.a_header_becomes_durable.Goals as goal

pub returns : goal.returns
returns c = record { durable = λ base log l p h t keeps k. header_durable base log l keeps p k h t; knows = λ base log l p h keeps k. knows_turned base log l keeps p k h }
