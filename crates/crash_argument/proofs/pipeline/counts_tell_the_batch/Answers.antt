use Rattle.crash_argument.proofs.pipe.BetweenSteps.{placed_told, batch_told, rest_told}
use Rattle.crash_argument.proofs.pipeline.counts_tell_the_batch.Goals as goal

pub returns : goal.returns
returns c = record { placed = placed_told; batch = batch_told; rest = rest_told }
