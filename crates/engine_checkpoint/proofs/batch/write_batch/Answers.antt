-- Each turn writes one block of the batch home, and what lies between two of them hasn't to go there.
use Rattle.std.proofs.Common.{◌≡◌, ◌<◌, ◌≤◌, ◌+◌, ◌++◌, ◌∷◌, ◌||◌, [], ℕ, List, map, take, length, drop, slice_index_or, vec_len, vec_capacity, None, ap, ◌∙◌, refl, sym, subst, arith}
use Rattle.std.proofs.lemmas.List.{length-map}
use Rattle.std.proofs.lemmas.Option.{none-some}
use Rattle.std.proofs.lemmas.Bool.{cond-true}
use Rattle.std.proofs.lemmas.Result.{IfOk-from_err}
use Rattle.crash_argument.specs.Ledger.{WrittenRecord}
use Rattle.crash_argument.specs.HomeTest.{is_one_of, goes_home}
use Rattle.crash_argument.specs.PipelineData.{NeedsCheckpoint}
use Rattle.crash_argument.specs.Writes.{HasWritten}
use Rattle.engine_notes.specs.Notes.{is_expected}
use Rattle.engine_running.specs.declared.put.Put.{Put}
use Rattle.engine_running.specs.Writes.{fresh_write}
use Rattle.engine_checkpoint.specs.declared.pipeline.HomeWrite.{HomeWrite}
use Rattle.engine_checkpoint.specs.Agree.{home_pair, home_ticket}
use Rattle.engine_checkpoint.specs.Batch.{home_block}
use Rattle.engine_checkpoint.specs.HomeState.{HomeState, with_homes, sent_behind, home_of}
use Rattle.engine_checkpoint.specs.Kept.{of_sure}
use Rattle.engine_checkpoint.proofs.Lists.{map_push}
use Rattle.engine_checkpoint.proofs.BatchRows.{sent_push, sent_low, sent_below, skipped, put_at, no_more, row_get, on_err_adds}
use Rattle.engine_checkpoint.proofs.HomeRows.{item_is, row_item, row_length, row_below, listed_next, expected_next}
use Rattle.engine_checkpoint.proofs.batch.write_batch.Goals as goal

pub loop-block-init : goal.loop-block-init
loop-block-init g c = record {
  spends = record { same = record { blocks = refl; base = refl; manner = refl }; faults = refl; read_faults = refl; waits = refl; polls = refl };
  taken = c.clear.ensures.len;
  capacity = omega (arith, c.clear.ensures.capacity);
  room = omega arith;
  listed = ap (map home_block) c.clear.ensures.items;
  expected = λ u. sym (ap (λ (hs : List HomeWrite). is_one_of u (map home_ticket hs) || is_expected u c.args.notes.now.notes) c.clear.ensures.items);
  noticed = λ u. refl;
  log = λ tells row is same. subst (λ (hs : List HomeWrite). HasWritten (map fresh_write row) 0 [] (map home_ticket hs) (g.D.Disk.state c.args.disk.now).log (g.D.Disk.state c.args.disk.now).log) (sym c.clear.ensures.items) (c.writes_join_a_log_one_by_one.ensures.none (map fresh_write row) [] (g.D.Disk.state c.args.disk.now).log);
  home = λ tells row is same s k p freed taken t floor safe st none homes test. (
    safe,
    subst (λ hs. HomeState (g.D.Disk.state c.args.disk.now).base (g.D.Disk.state c.args.disk.now).log k (with_homes p hs 0) freed taken) (homes ∙ sym (ap (map home_pair) c.clear.ensures.items))
        (subst (λ n. HomeState (g.D.Disk.state c.args.disk.now).base (g.D.Disk.state c.args.disk.now).log k (with_homes p p.home n) freed taken) none st),
  );
}

pub newest_bytes-bytes-requires-clause-has : goal.newest_bytes-bytes-requires-clause-has
newest_bytes-bytes-requires-clause-has g c = c.requires.blocks.only c.loop-block.block-index _ (item_is c.args.blocks.now c.loop-block.block-index c.loop-block-test.true)

pub write_home-requires : goal.write_home-requires
write_home-requires g c = omega (arith, c.requires.below c.loop-block.block-index _ (item_is c.args.blocks.now c.loop-block.block-index c.loop-block-test.true), c.loop-block.invariant.spends.same.blocks)

pub returns-in_err-ticket-clause-home : goal.returns-in_err-ticket-clause-home
returns-in_err-ticket-clause-home g c = λ tells row home same s l p freed taken t floor safe st none homes test.
    let k = c.loop-block.block-index in
    let b = slice_index_or c.args.blocks.now k 0 in
    let x = c.newest_bytes-bytes.result.now in
    let q : Put = record { block = b; bytes = x } in
    let is = row_item (map of_sure c.args.records.now.items) row c.args.blocks.now k b x home same (item_is c.args.blocks.now k c.loop-block-test.true) c.newest_bytes-bytes.ensures in
    let was = c.loop-block.invariant.home tells row home same s l p freed taken t floor safe st none homes test in
    let own = test b ∙ put_at row home.rising k q is in
    let between : (d : ℕ) → sent_behind 0 (take k row) ≤ d → d < b → home_of l p freed d ≡ None = λ d ge lt. test d ∙ skipped row home.rising k q is d ge lt in
    let now = c.in_err-ticket.ensures.home tells s l (with_homes p (map home_pair c.loop-block.home.items) (sent_behind 0 (take k row))) freed taken t floor was.0 was.1 (sent_low row home.rising k q is) own between in
    (now, IfOk-from_err _ _ c.from_residual.ensures.0)

pub returns-in_err-ticket-clause-log : goal.returns-in_err-ticket-clause-log
returns-in_err-ticket-clause-log g c = λ tells row home same.
    let k = c.loop-block.block-index in
    let b = slice_index_or c.args.blocks.now k 0 in
    let x = c.newest_bytes-bytes.result.now in
    let q : Put = record { block = b; bytes = x } in
    let is = row_item (map of_sure c.args.records.now.items) row c.args.blocks.now k b x home same (item_is c.args.blocks.now k c.loop-block-test.true) c.newest_bytes-bytes.ensures in
    on_err_adds (map fresh_write row) _ _ _ _ _ c.from_residual.ensures.0
    (c.writes_join_a_log_one_by_one.ensures.failed (map fresh_write row) k b x [] (map home_ticket c.loop-block.home.items) _ _ _ (row_get row k q is) (c.loop-block.invariant.log tells row home same) (c.in_err-ticket.ensures.log tells))

pub loop-block-preserved : goal.loop-block-preserved
loop-block-preserved g c =
    let k = c.loop-block.block-index in
    let blocks = c.args.blocks.now in
    let b = slice_index_or blocks k 0 in
    let x = c.newest_bytes-bytes.result.now in
    let q : Put = record { block = b; bytes = x } in
    let t = c.in_ok-ticket.ticket in
    let one : HomeWrite = record { block = b; ticket = t } in
    let room : vec_len c.loop-block.home < vec_capacity c.loop-block.home = omega (arith, c.requires.room, c.loop-block.invariant.taken, c.loop-block.invariant.capacity, c.loop-block-test.true) in
    let items : c.push.new.self.items ≡ c.loop-block.home.items ++ one ∷ [] = c.push.ensures.items ∙ cond-true _ _ _ (c.push.ensures.succeeds room) in
    let at = item_is blocks k c.loop-block-test.true in
    record {
      spends = record {
        same = record { blocks = c.write_home.ensures.spends.same.blocks ∙ c.loop-block.invariant.spends.same.blocks; base = c.write_home.ensures.spends.same.base ∙ c.loop-block.invariant.spends.same.base; manner = c.write_home.ensures.spends.same.manner ∙ c.loop-block.invariant.spends.same.manner };
        faults = c.in_ok-ticket.ensures.spends.faults ∙ c.loop-block.invariant.spends.faults;
        read_faults = c.write_home.ensures.spends.read_faults ∙ c.loop-block.invariant.spends.read_faults;
        waits = c.write_home.ensures.spends.waits ∙ c.loop-block.invariant.spends.waits;
        polls = c.write_home.ensures.spends.polls ∙ c.loop-block.invariant.spends.polls;
      };
      taken = c.push.ensures.len ∙ cond-true _ _ _ (c.push.ensures.succeeds room) ∙ omega (arith, c.loop-block.invariant.taken);
      capacity = omega (arith, c.push.ensures.capacity, c.loop-block.invariant.capacity);
      room = omega (arith, c.loop-block.invariant.room, c.expect.ensures.room);
      listed = ap (map home_block) items ∙ listed_next c.loop-block.home.items blocks k t c.loop-block-test.true c.loop-block.invariant.listed;
      expected = λ u. expected_next c.loop-block.home.items b t u (is_expected u c.args.notes.now.notes) (is_expected u c.loop-block.notes.notes) (is_expected u c.expect.new.self.notes) (c.loop-block.invariant.expected u) (c.expect.ensures.expected u)
          ∙ ap (λ (hs : List HomeWrite). is_one_of u (map home_ticket hs) || is_expected u c.args.notes.now.notes) (sym items);
      noticed = λ u. c.expect.ensures.noticed u ∙ c.loop-block.invariant.noticed u;
      log = λ tells row home same.
          let is = row_item (map of_sure c.args.records.now.items) row blocks k b x home same at c.newest_bytes-bytes.ensures in
          c.writes_join_a_log_one_by_one.ensures.more (map fresh_write row) k b x t [] (map home_ticket c.loop-block.home.items) (map home_ticket c.push.new.self.items) (g.D.Disk.state c.args.disk.now).log (g.D.Disk.state c.loop-block.disk).log (g.D.Disk.state c.write_home.new.disk).log
          (row_get row k q is) (ap (map home_ticket) items ∙ map_push home_ticket c.loop-block.home.items one) (c.loop-block.invariant.log tells row home same) (c.in_ok-ticket.ensures.log tells);
      home = λ tells row home same s l p freed taken u floor safe st none homes test.
          let is = row_item (map of_sure c.args.records.now.items) row blocks k b x home same at c.newest_bytes-bytes.ensures in
          let was = c.loop-block.invariant.home tells row home same s l p freed taken u floor safe st none homes test in
          let own = test b ∙ put_at row home.rising k q is in
          let between : (d : ℕ) → sent_behind 0 (take k row) ≤ d → d < b → home_of l p freed d ≡ None = λ d ge lt. test d ∙ skipped row home.rising k q is d ge lt in
          let now = c.in_ok-ticket.ensures.home tells s l (with_homes p (map home_pair c.loop-block.home.items) (sent_behind 0 (take k row))) freed taken u floor was.0 was.1 (sent_low row home.rising k q is) own between in (
            now.0,
            subst (λ n. HomeState (g.D.Disk.state c.write_home.new.disk).base (g.D.Disk.state c.write_home.new.disk).log l (with_homes p (map home_pair c.push.new.self.items) n) freed taken) (sym (sent_push row k q is))
                (subst (λ hs. HomeState (g.D.Disk.state c.write_home.new.disk).base (g.D.Disk.state c.write_home.new.disk).log l (with_homes p hs (b + 1)) freed taken) (sym (ap (map home_pair) items ∙ map_push home_pair c.loop-block.home.items one)) now.1),
          );
    }

pub returns-clause-home : goal.returns-clause-home
returns-clause-home g c = λ tells row home same s l p freed taken t floor safe st none homes test.
    let was = c.loop-block.invariant.home tells row home same s l p freed taken t floor safe st none homes test in
    let base = (g.D.Disk.state c.loop-block.disk).base in
    let log = (g.D.Disk.state c.loop-block.disk).log in
    let n = (g.D.Disk.state c.args.disk.now).blocks in
    let k = c.loop-block.block-index in
    let q = with_homes p (map home_pair c.loop-block.home.items) (sent_behind 0 (take k row)) in
    let all : k ≤ length row = omega (arith, c.loop-block.auto.block-index-end, row_length row c.args.blocks.now same) in
    let ends : length row ≤ k = omega (arith, c.loop-block-test.false, row_length row c.args.blocks.now same) in
    let batch_is = c.counts_tell_the_batch.ensures.batch base log l q was.1.agree in
    let rest : (d : ℕ) (y : List ℕ) → q.sent ≤ d → d < n → NeedsCheckpoint l was.1.agree.batch d y → ⊥ = λ d y ge lt need. none-some y (sym (test d ∙ no_more row home.rising k d all ends ge) ∙ sym (ap (λ (ws : List WrittenRecord). goes_home None ws (take p.batch (drop p.placed freed)) d) batch_is) ∙ c.the_home_test_is_exact.ensures.finds base log l q freed d y was.0.keeps was.1.agree was.1.freed_by was.1.ends need) in (
      was.0,
      record {
        agree = c.a_batch_goes_home.ensures.sent base log l q n was.0.keeps was.1.agree rest;
        freed_by = was.1.freed_by;
        ends = was.1.ends;
        idle = was.1.idle;
        one = c.one_write_stays_pending.ensures.sent base log l q [] n was.1.one (sent_below n row (row_below row c.args.blocks.now n same c.requires.below) k all);
        sent = was.1.sent;
        free = was.1.free;
      },
    )

pub returns-clause-log : goal.returns-clause-log
returns-clause-log g c = λ tells row home same. c.writes_join_a_log_one_by_one.ensures.all (map fresh_write row) c.loop-block.block-index [] (map home_ticket c.loop-block.home.items) _ _ (omega (arith, c.loop-block-test.false, length-map row fresh_write, row_length row c.args.blocks.now same)) (c.loop-block.invariant.log tells row home same)
