use Rattle.crash_argument.proofs.pipe.PipelineWrites.{knows_recorded}
use Rattle.crash_argument.proofs.pipeline.a_record_joins_the_data.Goals as goal

pub returns : goal.returns
returns c = record { knows = λ base old log l p w m tickets freed keeps k. knows_recorded base old log l p keeps k w m tickets freed }
