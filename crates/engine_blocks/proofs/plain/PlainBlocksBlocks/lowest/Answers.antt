use Rattle.std.proofs.Common.{◌≡◌, ◌∙◌, take, refl, sym, ap, subst, arith}
use Rattle.base_types.specs.Seal.{blocks_of}
use Rattle.layout_bitmap.specs.Bits.{free_blocks}
use Rattle.engine_blocks.specs.State.{MayBeTaken, reusable_blocks}
use Rattle.engine_blocks.specs.PlainOf.{books_of}
use Rattle.engine_blocks.proofs.Fronts.{reusable_front}
use Rattle.engine_blocks.proofs.plain.PlainBlocksBlocks.lowest.Goals as goal

pub returns-clause-lowest : goal.returns-clause-lowest
returns-clause-lowest c =
    let k = books_of c.args.self.now in
    let found : c.in-Ok.places ≡ take c.args.n (reusable_blocks k) = c.in-Ok.ensures ∙ ap (λ xs. take c.args.n (free_blocks k.geom (blocks_of xs))) c.as_slice.ensures.value in
    record {
      enough = omega (arith, c.if-n-reusable.false, c.reusable-reusable.ensures);
      least = found;
      takeable = subst (MayBeTaken k.geom k.reusable) (sym found) (reusable_front k c.args.n);
      settled = λ few. refl;
    }
