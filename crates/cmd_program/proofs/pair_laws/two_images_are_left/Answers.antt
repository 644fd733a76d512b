-- A run on two images that ended so came to both disks, each with its own marks; and a copy is answered by its status.
use Rattle.cmd_program.proofs.Pairs.{copied_whole, left_pair}
use Rattle.cmd_program.proofs.pair_laws.two_images_are_left.Goals as goal

pub returns-clause-runs : goal.returns-clause-runs
returns-clause-runs c = λ tells image other m t apart r. left_pair tells image other m t apart r

pub returns-clause-copies : goal.returns-clause-copies
returns-clause-copies c = λ tells image other m t x. copied_whole tells image other m t x
