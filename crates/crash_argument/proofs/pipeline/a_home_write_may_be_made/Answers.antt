use Rattle.std.proofs.Common.{arith}
use Rattle.crash_argument.proofs.pipe.PipelineSteps.{home_write_may}
use Rattle.crash_argument.proofs.pipeline.a_home_write_may_be_made.Goals as goal

pub returns : goal.returns
returns c = record { may = λ base log l p b x keeps k ends. home_write_may base log l keeps p k b x (omega (arith, ends, k.placed_is, k.batch_is)) }
