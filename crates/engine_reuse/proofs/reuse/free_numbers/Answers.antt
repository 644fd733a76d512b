-- Each free block is put in.
use Rattle.std.proofs.Common.{◌≡◌, ◌≤◌, sym, subst, ◌∙◌, arith}
use Rattle.base_types.specs.Seal.{blocks_of}
use Rattle.layout_geometry.specs.Geometry.{data_start}
use Rattle.engine_reuse.specs.Numbers.{set_of}
use Rattle.engine_reuse.proofs.Steps.{is_free_before, none_free, one_free, one_set, all_free}
use Rattle.engine_reuse.proofs.reuse.free_numbers.Goals.{then-not-is_set, else-not-is_set}
use Rattle.engine_reuse.proofs.reuse.free_numbers.Goals as goal

pub loop-block-init : goal.loop-block-init
loop-block-init c = (
  rw c.data_start-block.ensures (none_free c.args.geom.now (blocks_of c.args.bitmap.now) c.in_ok-free.free c.in_ok-free.ensures.set),
  omega (arith, c.in_ok-free.ensures.limit, c.n.ensures),
)

pub loop-block-preserved : goal.loop-block-preserved
loop-block-preserved c =
    elim c.if-not-is_set.branch [
      | then-not-is_set w ↦
          rw w.free-is (
            one_free c.args.geom.now (blocks_of c.args.bitmap.now) c.in_ok-free.free.limit c.loop-block.block c.loop-block.free w.put.new.self c.loop-block.invariant.0
                (omega (arith, c.loop-block.auto.block, c.data_start-block.ensures)) (sym c.is_set.ensures ∙ w.if-not-is_set.true) w.put.ensures,
            c.loop-block.invariant.1,
          )
      | else-not-is_set w ↦
          rw w.free-is (
            one_set c.args.geom.now (blocks_of c.args.bitmap.now) c.in_ok-free.free.limit c.loop-block.block c.loop-block.free c.loop-block.invariant.0 (sym c.is_set.ensures ∙ w.if-not-is_set.false),
            c.loop-block.invariant.1,
          )
    ]

pub returns-clause-members : goal.returns-clause-members
returns-clause-members c =
    let fits : data_start c.args.geom.now ≤ c.args.geom.now.n = omega (arith, c.lawful.ensures.limits.data_room) in
    let end : c.loop-block.block ≡ c.args.geom.now.n = omega (arith, c.loop-block-test.false, c.n-block-end.ensures, c.loop-block.auto.block-end (omega (arith, fits, c.n-block-end.ensures, c.data_start-block.ensures))) in
    all_free c.args.geom.now (blocks_of c.args.bitmap.now) c.in_ok-free.free.limit c.loop-block.free
    (subst (λ k. c.loop-block.free ≡ set_of c.in_ok-free.free.limit (is_free_before c.args.geom.now (blocks_of c.args.bitmap.now) k)) end c.loop-block.invariant.0) c.loop-block.invariant.1
