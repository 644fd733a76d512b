use Rattle.std.proofs.Common.{◌∙◌, ◌+◌, ◌-◌, ◌++◌, ◌∷◌, [], List, ℕ, length, map, sym, ap, ap₂, arith}
use Rattle.std.proofs.lemmas.List.FromFn.{length-map-range_with_len, map-range_with_len_more}
use Rattle.std.specs.List.{range_with_len}
use Rattle.layout_journal.specs.Formatted.{formatted}
use Rattle.engine_blocks.proofs.formatting.formatted_blocks.Goals as goal

pub push_reserved-requires : goal.push_reserved-requires
push_reserved-requires c =
    omega (arith, c.loop-b.invariant, c.loop-b-test.true, c.loop-b.blocks.ok, ap length c.loop-b.invariant.0, length-map-range_with_len (formatted c.args.geom.now) c.args.first (c.loop-b.b - c.args.first))

pub loop-b-preserved : goal.loop-b-preserved
loop-b-preserved c =
    let f = formatted c.args.geom.now in
    let a = c.args.first in
    let b = c.loop-b.b in (
      c.push_reserved.ensures.items
          ∙ ap₂ (λ (xs : List (List ℕ)) x. xs ++ x ∷ []) c.loop-b.invariant.0 c.formatted_block.ensures
          ∙ sym (map-range_with_len_more f a (b - a) b (omega (arith, c.loop-b.invariant)))
          ∙ ap (λ n. map f (range_with_len a n)) {y = b + 1 - a} (omega (arith, c.loop-b.invariant)),
      omega (arith, c.loop-b.invariant),
      omega (arith, c.loop-b.invariant, c.push_reserved.ensures.capacity),
    )
