use Rattle.std.proofs.Common.{◌-◌, arith}
use Rattle.layout_geometry.specs.Geometry.{data_start}
use Rattle.engine_store.proofs.Logs.{below_then, below_more}
use Rattle.engine_store.proofs.Spending.{second_failed, third_then, third_failed}
use Rattle.engine_store.proofs.formatting.write_groups.Goals as goal

pub returns-in_err-make_durable-clause-below : goal.returns-in_err-make_durable-clause-below
returns-in_err-make_durable-clause-below g c = λ tells. below_more c.bitmap_start-bitmap.result (data_start c.args.geom.now) _ _ (omega (arith, c.bitmap_start-bitmap.ensures)) (c.make_durable.ensures.below tells)

pub returns-in_err-make_durable-2-clause-below : goal.returns-in_err-make_durable-2-clause-below
returns-in_err-make_durable-2-clause-below g c = λ tells.
    below_then c.data_start.result (data_start c.args.geom.now) _ (g.D.Disk.state c.make_durable.new.disk).log _ (omega (arith, c.data_start.ensures))
    (below_more c.bitmap_start-bitmap.result (data_start c.args.geom.now) _ _ (omega (arith, c.bitmap_start-bitmap.ensures)) (c.make_durable.ensures.below tells)) (c.make_durable-2.ensures.below tells)

pub returns-in_err-make_durable-2-clause-spends : goal.returns-in_err-make_durable-2-clause-spends
returns-in_err-make_durable-2-clause-spends g c =
    second_failed _ (c.bitmap_start-bitmap.result - 0) (c.data_start.result - c.bitmap_start-bitmap.result) _ _ (g.D.Disk.state c.make_durable.new.disk) _ c.from_residual-in_err-make_durable-2.ensures.0
    (omega (arith, c.bitmap_start-bitmap.ensures, c.data_start.ensures)) c.in_ok-make_durable.ensures.spends c.in_err-make_durable-2.ensures.spends

pub returns-in_err-make_durable-3-clause-below : goal.returns-in_err-make_durable-3-clause-below
returns-in_err-make_durable-3-clause-below g c = λ tells.
    below_then 1 (data_start c.args.geom.now) _ (g.D.Disk.state c.make_durable-2.new.disk).log _ (omega arith)
    (below_then c.data_start.result (data_start c.args.geom.now) _ (g.D.Disk.state c.make_durable.new.disk).log _ (omega (arith, c.data_start.ensures))
    (below_more c.bitmap_start-bitmap.result (data_start c.args.geom.now) _ _ (omega (arith, c.bitmap_start-bitmap.ensures)) (c.make_durable.ensures.below tells)) (c.make_durable-2.ensures.below tells))
    (c.make_durable-3.ensures.below tells)

pub returns-in_err-make_durable-3-clause-spends : goal.returns-in_err-make_durable-3-clause-spends
returns-in_err-make_durable-3-clause-spends g c =
    third_failed _ (c.bitmap_start-bitmap.result - 0) (c.data_start.result - c.bitmap_start-bitmap.result) (1 - 0) _ _ (g.D.Disk.state c.make_durable.new.disk) (g.D.Disk.state c.make_durable-2.new.disk) _
    c.from_residual-in_err-make_durable-3.ensures.0 (omega (arith, c.bitmap_start-bitmap.ensures, c.data_start.ensures)) c.in_ok-make_durable.ensures.spends c.in_ok-make_durable-2.ensures.spends c.in_err-make_durable-3.ensures.spends

pub returns-clause-below : goal.returns-clause-below
returns-clause-below g c = λ tells.
    below_then 1 (data_start c.args.geom.now) _ (g.D.Disk.state c.make_durable-2.new.disk).log _ (omega arith)
    (below_then c.data_start.result (data_start c.args.geom.now) _ (g.D.Disk.state c.make_durable.new.disk).log _ (omega (arith, c.data_start.ensures))
    (below_more c.bitmap_start-bitmap.result (data_start c.args.geom.now) _ _ (omega (arith, c.bitmap_start-bitmap.ensures)) (c.make_durable.ensures.below tells)) (c.make_durable-2.ensures.below tells))
    (c.make_durable-3.ensures.below tells)

pub returns-clause-spends : goal.returns-clause-spends
returns-clause-spends g c =
    third_then (c.bitmap_start-bitmap.result - 0) (c.data_start.result - c.bitmap_start-bitmap.result) (1 - 0) _ _ (g.D.Disk.state c.make_durable.new.disk) (g.D.Disk.state c.make_durable-2.new.disk) _
    (omega (arith, c.bitmap_start-bitmap.ensures, c.data_start.ensures)) c.in_ok-make_durable.ensures.spends c.in_ok-make_durable-2.ensures.spends c.in_ok-make_durable-3.ensures.spends
