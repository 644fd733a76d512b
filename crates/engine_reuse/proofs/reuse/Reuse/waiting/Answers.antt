-- There are no more waiting blocks than data blocks.
use Rattle.std.proofs.Common.{arith}
use Rattle.std.proofs.lemmas.List.{length-map}
use Rattle.engine_reuse.specs.Inside.{pair_of}
use Rattle.engine_reuse.proofs.Sound.{few_dead}
use Rattle.engine_reuse.proofs.reuse.Reuse.waiting.Goals as goal

pub overflow_cast-result : goal.overflow_cast-result
overflow_cast-result c =
    let few = few_dead _ c.self.invariant.0.sound in
    omega (arith, few, c.len.ensures, c.self.inside.waiting.ok, length-map c.self.inside.waiting.items pair_of, c.lawful.ensures.limits.most_blocks)
