-- Each turn writes one fresh block more, and its ticket joins the list.
use Rattle.std.proofs.Common.{◌≡◌, ◌<◌, ◌+◌, ◌++◌, ◌∷◌, [], ℕ, List, map, vec_len, vec_capacity, Some, ap, ◌∙◌, refl, sym, subst, arith, false, option_map}
use Rattle.std.proofs.lemmas.List.{length-map}
use Rattle.std.proofs.lemmas.Option.{slice_get_read, slice_get-map}
use Rattle.std.proofs.lemmas.Bool.{cond-true}
use Rattle.std.proofs.lemmas.Result.{IfOk-from_err}
use Rattle.crash_argument.specs.Recording.{IsPartlyWritten}
use Rattle.engine_running.specs.Writes.{fresh_write}
use Rattle.engine_running.proofs.logs.Logs.{all_err, still, still_more}
use Rattle.engine_running.proofs.writes.issue_fresh.Goals as goal

pub loop-put-init : goal.loop-put-init
loop-put-init g c = record {
  spends = still _;
  taken = omega arith;
  capacity = omega arith;
  log = λ tells. c.writes_join_a_log_one_by_one.ensures.none (map fresh_write c.args.laid.now) c.args.tickets.now.items (g.D.Disk.state c.args.disk.now).log;
  under_way = λ tells s k p w m t floor issued new next laid safe under. (safe, under);
}

pub returns-in_err-ticket-clause-log : goal.returns-in_err-ticket-clause-log
returns-in_err-ticket-clause-log g c = λ tells.
    let here = slice_get-map fresh_write c.args.laid.now c.loop-put.put-index ∙ ap (option_map fresh_write) (slice_get_read c.args.laid.now _ c.loop-put.put-index c.put-item.result refl c.loop-put-test.true c.put-item.is) ∙ ap (λ y. Some (c.put-item.result.block, y)) (sym c.bytes.ensures.bytes) in
    all_err (map fresh_write c.args.laid.now) _ _ _ _ _ c.from_residual.ensures.0
    (c.writes_join_a_log_one_by_one.ensures.failed (map fresh_write c.args.laid.now) c.loop-put.put-index c.put-item.result.block c.bytes.result.now c.args.tickets.now.items c.loop-put.tickets.items _ (g.D.Disk.state c.loop-put.disk).log _ here (c.loop-put.invariant.log tells) (c.in_err-ticket.ensures.log tells))

pub returns-in_err-ticket-clause-under_way : goal.returns-in_err-ticket-clause-under_way
returns-in_err-ticket-clause-under_way g c = λ tells s l p w m t floor issued new next laid safe under.
    let e = laid c.loop-put.put-index c.put-item.result (slice_get_read c.args.laid.now _ c.loop-put.put-index c.put-item.result refl c.loop-put-test.true c.put-item.is) in
    let was = c.loop-put.invariant.under_way tells s l p w m t floor issued new next laid safe under in
    (c.in_err-ticket.ensures.under_way tells s l p w m t floor c.loop-put.put-index issued e.0 _ new next e.1 e.2 (c.bytes.ensures.bytes ∙ e.3) was.0 was.1, IfOk-from_err _ _ c.from_residual.ensures.0)

pub loop-put-preserved : goal.loop-put-preserved
loop-put-preserved g c =
    let room : vec_len c.loop-put.tickets < vec_capacity c.loop-put.tickets = omega (arith, c.requires.room, c.loop-put.invariant.taken, c.loop-put.invariant.capacity, c.loop-put-test.true) in
    let items : c.push.new.self.items ≡ c.loop-put.tickets.items ++ c.in_ok-ticket.ticket ∷ [] = c.push.ensures.items ∙ cond-true _ _ _ (c.push.ensures.succeeds room) in
    record {
      spends = still_more false _ _ _ c.loop-put.invariant.spends c.in_ok-ticket.ensures.spends;
      taken = c.push.ensures.len ∙ cond-true _ _ _ (c.push.ensures.succeeds room) ∙ omega (arith, c.loop-put.invariant.taken);
      capacity = omega (arith, c.push.ensures.capacity, c.loop-put.invariant.capacity);
      log = λ tells.
          let here = slice_get-map fresh_write c.args.laid.now c.loop-put.put-index ∙ ap (option_map fresh_write) (slice_get_read c.args.laid.now _ c.loop-put.put-index c.put-item.result refl c.loop-put-test.true c.put-item.is) ∙ ap (λ y. Some (c.put-item.result.block, y)) (sym c.bytes.ensures.bytes) in
          c.writes_join_a_log_one_by_one.ensures.more (map fresh_write c.args.laid.now) c.loop-put.put-index c.put-item.result.block c.bytes.result.now c.in_ok-ticket.ticket c.args.tickets.now.items c.loop-put.tickets.items c.push.new.self.items (g.D.Disk.state c.args.disk.now).log (g.D.Disk.state c.loop-put.disk).log (g.D.Disk.state c.write_fresh.new.disk).log here items (c.loop-put.invariant.log tells) (c.in_ok-ticket.ensures.log tells);
      under_way = λ tells s l p w m t floor issued new next laid safe under.
          let e = laid c.loop-put.put-index c.put-item.result (slice_get_read c.args.laid.now _ c.loop-put.put-index c.put-item.result refl c.loop-put-test.true c.put-item.is) in
          let was = c.loop-put.invariant.under_way tells s l p w m t floor issued new next laid safe under in
          let now = c.in_ok-ticket.ensures.under_way tells s l p w m t floor c.loop-put.put-index issued e.0 _ new next e.1 e.2 (c.bytes.ensures.bytes ∙ e.3) was.0 was.1 in
          (now.0, subst (λ (ts : List ℕ). IsPartlyWritten (g.D.Disk.state c.write_fresh.new.disk).base (g.D.Disk.state c.write_fresh.new.disk).log l p w ts (c.loop-put.put-index + 1) issued) (sym items) now.1);
    }

pub returns-clause-under_way : goal.returns-clause-under_way
returns-clause-under_way g c = λ tells s l p w m t floor issued new next laid safe under.
    let was = c.loop-put.invariant.under_way tells s l p w m t floor issued new next laid safe under in
    (was.0, subst (λ n. IsPartlyWritten (g.D.Disk.state c.loop-put.disk).base (g.D.Disk.state c.loop-put.disk).log l p w c.loop-put.tickets.items n issued) (omega (arith, c.loop-put-test.false, c.loop-put.auto.put-index-end)) was.1)

pub returns-clause-log : goal.returns-clause-log
returns-clause-log g c = λ tells. c.writes_join_a_log_one_by_one.ensures.all (map fresh_write c.args.laid.now) c.loop-put.put-index c.args.tickets.now.items c.loop-put.tickets.items _ _ (omega (arith, c.loop-put-test.false, length-map c.args.laid.now fresh_write)) (c.loop-put.invariant.log tells)
