use Rattle.std.proofs.Common.{◌∙◌, arith}
use Rattle.engine_store.specs.Formatting.{content_of}
use Rattle.engine_store.proofs.Logs.{none_below, wrote_below, failed_below, below_then}
use Rattle.engine_store.proofs.Spending.{spends_none, writes_on}
use Rattle.engine_store.proofs.Rows.{none_yet, one_more, all_there}
use Rattle.engine_store.proofs.formatting.write_row.Goals as goal

pub loop-b-init : goal.loop-b-init
loop-b-init g c = record {
  from = omega arith;
  upto = c.requires.order;
  spent = spends_none (g.D.Disk.state c.args.disk.now);
  taken = c.clear.ensures.len ∙ omega arith;
  capacity = c.clear.ensures.capacity;
  log = λ tells. none_yet c.writes_join_a_log_one_by_one.ensures.none _ c.args.first _ (g.D.Disk.state c.args.disk.now).log c.clear.ensures.items;
  below = λ tells. none_below c.args.end (g.D.Disk.state c.args.disk.now).log;
}

pub returns-in_err-ticket-clause-below : goal.returns-in_err-ticket-clause-below
returns-in_err-ticket-clause-below g c = λ tells.
    below_then c.args.end c.args.end _ (g.D.Disk.state c.loop-b.disk).log _ (omega arith) (c.loop-b.invariant.below tells)
    (failed_below c.args.end c.loop-b.b _ _ _ c.loop-b-test.true (c.in_err-ticket.ensures.log tells))

pub loop-b-preserved : goal.loop-b-preserved
loop-b-preserved g c =
    let blocks = content_of c.args.geom.now c.args.content in
    record {
      from = omega (arith, c.loop-b.invariant.from);
      upto = omega (arith, c.loop-b-test.true);
      spent = writes_on _ _ (g.D.Disk.state c.loop-b.disk) _ c.loop-b.invariant.spent c.in_ok-ticket.ensures.spends;
      taken = omega (arith, c.push_reserved.ensures.len, c.loop-b.invariant.taken, c.loop-b.invariant.from);
      capacity = c.push_reserved.ensures.capacity ∙ c.loop-b.invariant.capacity;
      log = λ tells. one_more c.writes_join_a_log_one_by_one.ensures.more blocks c.args.first c.args.end c.loop-b.b _ c.in_ok-ticket.ticket _ _ _ (g.D.Disk.state c.loop-b.disk).log _ c.loop-b.invariant.from c.loop-b-test.true c.content_block.ensures c.push_reserved.ensures.items
          (c.loop-b.invariant.log tells) (c.in_ok-ticket.ensures.log tells);
      below = λ tells.
          below_then c.args.end c.args.end _ (g.D.Disk.state c.loop-b.disk).log _ (omega arith) (c.loop-b.invariant.below tells)
          (wrote_below c.args.end c.loop-b.b _ _ _ _ c.loop-b-test.true (c.in_ok-ticket.ensures.log tells).2);
    }

pub returns-clause-accepted : goal.returns-clause-accepted
returns-clause-accepted g c = λ tells. all_there c.writes_join_a_log_one_by_one.ensures.all (content_of c.args.geom.now c.args.content) c.args.first c.args.end c.loop-b.b _ _ _ (omega (arith, c.loop-b.invariant.from, c.loop-b-test.false)) (c.loop-b.invariant.log tells)
