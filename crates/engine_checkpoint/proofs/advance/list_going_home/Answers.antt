-- Each turn looks at one checkpoint write more.
use Rattle.std.proofs.Common.{get_or, arith}
use Rattle.std.proofs.lemmas.Bool.Decides.{nat_tests}
use Rattle.engine_checkpoint.proofs.Served.{going_more}
use Rattle.engine_checkpoint.proofs.advance.list_going_home.Goals as goal

pub loop-write-preserved : goal.loop-write-preserved
loop-write-preserved c = grind (arith, nat_tests, get_or, going_more)
