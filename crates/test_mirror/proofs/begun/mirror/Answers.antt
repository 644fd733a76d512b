use Rattle.test_mirror.proofs.Zeros.{zeros_alike}
use Rattle.test_mirror.proofs.begun.mirror.Goals as goal

pub new-requires-clause-alike : goal.new-requires-clause-alike
new-requires-clause-alike c = λ tells same n low. zeros_alike _ _ _ _ c.in_ok-a.ensures.base c.in_ok-b.ensures.base same n
