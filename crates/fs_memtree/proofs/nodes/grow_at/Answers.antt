use Rattle.std.proofs.Common.{Result, Ok, Err, OnErr, length, ap, arith}
use Rattle.fs_memtree.specs.Stored.{grown}
use Rattle.fs_memtree.proofs.rows.Row.{not_edited, things_set_same, nodes_edited, gaps_edited}
use Rattle.fs_memtree.proofs.nodes.grow_at.Goals as goal

on_err : {T E : Type 0} {P : Type 0} (r : Result T E) → P → OnErr r P
on_err (Ok x) p = tt
on_err (Err e) p = p

pub returns-in_default-clause-ok : goal.returns-in_default-clause-ok
returns-in_default-clause-ok c = not_edited c.args.row.now.items c.as_slice.result.now c.args.number (grown c.args.change) c.as_slice.ensures.value c.in_default.ensures.used

pub returns-in_err-grow-clause-err : goal.returns-in_err-grow-clause-err
returns-in_err-grow-clause-err c = on_err c.from_residual.result (things_set_same c.args.row.now.items c.in-Some.index c.grow.new.place c.index_mut.result.now c.index_mut.ensures.value c.in_err-grow.ensures.err)

pub returns-clause-ok : goal.returns-clause-ok
returns-clause-ok c = nodes_edited c.args.row.now.items c.in-Some.index c.args.number c.grow.new.place c.index_mut.result.now (grown c.args.change)
    c.in-Some.ensures.place.0 (omega (arith, c.in-Some.ensures.place.1, ap length c.as_slice.ensures.value)) c.index_mut.ensures.value c.in_ok-grow.ensures.ok

pub returns-clause-unused : goal.returns-clause-unused
returns-clause-unused c = gaps_edited c.args.row.now.items c.in-Some.index c.args.number c.grow.new.place c.index_mut.result.now (grown c.args.change)
    c.in-Some.ensures.place.0 (omega (arith, c.in-Some.ensures.place.1, ap length c.as_slice.ensures.value)) c.index_mut.ensures.value c.in_ok-grow.ensures.ok
