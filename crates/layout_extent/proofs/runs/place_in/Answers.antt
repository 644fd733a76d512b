use Rattle.std.proofs.Common.{◌<◌, length, sym, ◌∙◌, arith}
use Rattle.layout_extent.proofs.Places.{place_within, place_behind}
use Rattle.layout_extent.proofs.runs.place_in.Goals as goal

pub returns-then-left-run-clause-value : goal.returns-then-left-run-clause-value
returns-then-left-run-clause-value c =
    let more : c.loop-run.run-index < length c.args.runs.now = omega (arith, c.loop-run-test.true, c.loop-run.auto.run-index-end) in
    sym (place_within c.args.runs.now c.loop-run.run-index c.loop-run.left (record { first = 0; count = 0 }) more c.if-left-run.true) ∙ c.loop-run.invariant

pub loop-run-preserved : goal.loop-run-preserved
loop-run-preserved c =
    let more : c.loop-run.run-index < length c.args.runs.now = omega (arith, c.loop-run-test.true, c.loop-run.auto.run-index-end) in
    sym (place_behind c.args.runs.now c.loop-run.run-index c.loop-run.left (record { first = 0; count = 0 }) more c.if-left-run.false) ∙ c.loop-run.invariant
