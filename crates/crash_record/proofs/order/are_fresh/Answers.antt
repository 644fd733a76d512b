use Rattle.std.proofs.Common.{rules, ◌∙◌, sym}
use Rattle.crash_record.proofs.Passing.{from_here, told, next, refused, passed}
use Rattle.crash_record.proofs.order.are_fresh.Goals as goal

pub loop-entry-preserved : goal.loop-entry-preserved
loop-entry-preserved c =
    let is = from_here c.args.fresh.now c.loop-entry.entry-index _ c.loop-entry-test.true in
    let from = c.loop-entry.invariant.from in
    let same = told c.args.geom.n c.args.payloads.now c.loop-entry.left.now c.from_block-left.result.now _ _ _ from.0 c.first_names.result is from.1 from.2 c.loop-entry.invariant.left c.from_block-left.ensures.names c.from_block-left.ensures.ascends c.first_names.ensures in
    record {
      inside = search rules;
      decides = passed c.args.geom c.args.payloads.now _ _ _ c.first_names.result is same c.if-first_names.false (search rules) (search rules) (search rules) ∙ c.loop-entry.invariant.decides;
      from = next c.args.geom.n c.args.payloads.now c.loop-entry.left.now c.from_block-left.result.now _ _ _ from.0 is from.1 from.2 c.from_block-left.ensures.names;
      left = (_, c.from_block-left.ensures.ascends c.loop-entry.invariant.left.0 c.args.geom.n c.loop-entry.invariant.left.1);
    }

pub returns-then-first_names : goal.returns-then-first_names
returns-then-first_names c =
    let is = from_here c.args.fresh.now c.loop-entry.entry-index _ c.loop-entry-test.true in
    let from = c.loop-entry.invariant.from in
    let same = told c.args.geom.n c.args.payloads.now c.loop-entry.left.now c.from_block-left.result.now _ _ _ from.0 c.first_names.result is from.1 from.2 c.loop-entry.invariant.left c.from_block-left.ensures.names c.from_block-left.ensures.ascends c.first_names.ensures in
    sym (refused c.args.geom c.args.payloads.now _ _ _ c.first_names.result is same c.if-first_names.true) ∙ c.loop-entry.invariant.decides
