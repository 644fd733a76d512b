-- Each turn takes one block more out.
use Rattle.std.proofs.Common.{arith}
use Rattle.std.proofs.lemmas.Bool.Decides.{nat_tests}
use Rattle.engine_checkpoint.proofs.Spots.{out_push}
use Rattle.engine_checkpoint.proofs.newest.Newest.take_all_out.Goals as goal

pub loop-block-preserved : goal.loop-block-preserved
loop-block-preserved c = grind (arith, nat_tests, out_push)
