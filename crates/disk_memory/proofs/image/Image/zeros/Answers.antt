use Rattle.std.proofs.Common.{◌∙◌, ap, arith, length-append, ℕ, List, [], ◌∷◌, ◌++◌, length}
use Rattle.std.specs.Prelude.{is_ok, replicate}
use Rattle.std.proofs.lemmas.Bool.{cond-true}
use Rattle.disk_memory.proofs.disk_calls.Zeros.{same_more, zeros_are_blocks}
use Rattle.disk_memory.proofs.image.Image.zeros.Goals as goal

pub loop-blocks-preserved : goal.loop-blocks-preserved
loop-blocks-preserved c =
    let old = c.loop-blocks.blocks in
    let inv = c.loop-blocks.invariant in
    let items = c.push.ensures.items ∙ cond-true _ _ _ (ap is_ok c.unwrap.ensures) ∙ ap (λ (z : List ℕ). old.items ++ z ∷ []) c.zeros.ensures in
    let long = ap length items ∙ length-append old.items (replicate 1024 0 ∷ []) in
    (same_more (replicate 1024 0) old.items _ inv.0 items, omega (arith, long, c.loop-blocks-test, c.len.ensures, old.ok), omega (arith, inv, c.push.ensures.capacity))

pub invariant_of-result : goal.invariant_of-result
invariant_of-result c =
    let inv = c.loop-blocks.invariant in
    zeros_are_blocks c.loop-blocks.blocks.items inv.0 (omega (arith, inv.1, c.ranges.n))
