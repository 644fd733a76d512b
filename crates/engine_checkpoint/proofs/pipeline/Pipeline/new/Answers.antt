-- What a mount leaves is what a pipeline with no record says.
use Rattle.std.proofs.Common.{arith}
use Rattle.std.proofs.lemmas.Bool.Decides.{nat_tests}
use Rattle.engine_checkpoint.specs.declared.pipeline.Pipeline.{Pipeline}
use Rattle.engine_checkpoint.proofs.Made.{agrees_made}
use Rattle.engine_checkpoint.proofs.pipeline.Pipeline.new.Goals as goal

pub returns-clause-agrees : goal.returns-clause-agrees
returns-clause-agrees c = grind (arith, nat_tests, agrees_made)
