-- There are no more held blocks than data blocks.
use Rattle.std.proofs.Common.{arith}
use Rattle.engine_reuse.proofs.Sound.{few_dead}
use Rattle.engine_reuse.proofs.reuse.Reuse.held.Goals as goal

pub overflow_cast-result : goal.overflow_cast-result
overflow_cast-result c = let few = few_dead _ c.self.invariant.0.sound in omega (arith, few, c.len.ensures, c.self.inside.held.ok.0, c.lawful.ensures.limits.most_blocks)
