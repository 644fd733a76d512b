-- Each turn writes one payload more, and its ticket joins the list.
use Rattle.std.proofs.Common.{◌≡◌, ◌<◌, ◌+◌, ◌++◌, ◌∷◌, [], ℕ, List, map, slice_get, vec_len, vec_capacity, Some, ap, ◌∙◌, refl, sym, subst, arith, false, option_map}
use Rattle.std.proofs.lemmas.List.{length-map}
use Rattle.std.proofs.lemmas.Option.{slice_get_read, slice_get-map}
use Rattle.std.proofs.lemmas.Bool.{cond-true}
use Rattle.std.proofs.lemmas.Result.{IfOk-from_err}
use Rattle.layout_geometry.specs.Geometry.{Geometry, ring_block}
use Rattle.layout_journal.specs.Spelling.{stored_of}
use Rattle.crash_argument.specs.Recording.{IsPartlyWritten}
use Rattle.engine_running.specs.declared.put.Put.{Put}
use Rattle.engine_running.specs.Record.{stored_put}
use Rattle.engine_running.specs.Writes.{ring_writes}
use Rattle.engine_running.proofs.spelling.Forms.{index_map}
use Rattle.engine_running.proofs.logs.Logs.{all_err, ring_write_is, length_ring_writes, still, still_more}
use Rattle.engine_running.proofs.writes.issue_payloads.Goals as goal

-- the place of a payload is that of the record's part
place_is : (g h : Geometry) (at first place from k : ℕ) → at ≡ first + k → g ≡ h → first ≡ place + from → ring_block g at ≡ ring_block h (place + (from + k))
place_is g h at first place from k e same begins = ap (ring_block g) (sum at first place from k e begins) ∙ ap (λ (q : Geometry). ring_block q (place + (from + k))) same
  where
    sum : (at first place from k : ℕ) → at ≡ first + k → first ≡ place + from → at ≡ place + (from + k)
    sum at first place from k e f = omega (arith, e, f)

-- what is written there
write_is : (g : Geometry) (first at k : ℕ) (paid : List Put) (p : Put) (block : ℕ) (x bytes : List ℕ) → slice_get paid k ≡ Some p → block ≡ ring_block g at → at ≡ first + k → x ≡ stored_of bytes → bytes ≡ p.bytes → slice_get (ring_writes g first (map stored_put paid)) k ≡ Some (block, x)
write_is g first at k paid p block x bytes here b e stored same = ring_write_is g first (map stored_put paid) k (stored_put p) (slice_get-map stored_put paid k ∙ ap (option_map stored_put) here)
    ∙ ap (λ n. Some (n, stored_put p)) (sym (b ∙ ap (ring_block g) e)) ∙ ap (λ (y : List ℕ). Some (block, y)) (sym (stored ∙ ap stored_of same))

pub loop-put-init : goal.loop-put-init
loop-put-init g c = record {
  at = omega arith;
  spends = still _;
  taken = omega arith;
  capacity = omega arith;
  log = λ tells. c.writes_join_a_log_one_by_one.ensures.none (ring_writes c.args.geom.now c.args.first (map stored_put c.args.paid.now)) c.args.tickets.now.items (g.D.Disk.state c.args.disk.now).log;
  under_way = λ tells s k p w m t floor laid from new next same begins some ends parts safe under.
      (safe, subst (λ n. IsPartlyWritten (g.D.Disk.state c.args.disk.now).base (g.D.Disk.state c.args.disk.now).log k p w c.args.tickets.now.items laid n) (z from) under);
}
  where
    z : (n : ℕ) → n ≡ n + 0
    z n = omega arith

pub returns-in_err-ticket-clause-log : goal.returns-in_err-ticket-clause-log
returns-in_err-ticket-clause-log g c = λ tells.
    let here = slice_get_read c.args.paid.now _ c.loop-put.put-index c.put-item.result refl c.loop-put-test.true c.put-item.is in
    let is = write_is c.args.geom.now c.args.first c.loop-put.at c.loop-put.put-index c.args.paid.now c.put-item.result c.ring_block.result c.escape.new.into c.bytes.result.now here c.ring_block.ensures.block c.loop-put.invariant.at c.escape.ensures.stored c.bytes.ensures.bytes in
    all_err (ring_writes c.args.geom.now c.args.first (map stored_put c.args.paid.now)) _ _ _ _ _ c.from_residual.ensures.0
    (c.writes_join_a_log_one_by_one.ensures.failed (ring_writes c.args.geom.now c.args.first (map stored_put c.args.paid.now)) c.loop-put.put-index c.ring_block.result c.escape.new.into c.args.tickets.now.items c.loop-put.tickets.items _ (g.D.Disk.state c.loop-put.disk).log _ is (c.loop-put.invariant.log tells) (c.in_err-ticket.ensures.log tells))

pub returns-in_err-ticket-clause-under_way : goal.returns-in_err-ticket-clause-under_way
returns-in_err-ticket-clause-under_way g c = λ tells s l p w m t floor laid from new next same begins some ends parts safe under.
    let k = c.loop-put.put-index in
    let here = slice_get_read c.args.paid.now _ k c.put-item.result refl c.loop-put-test.true c.put-item.is in
    let was = c.loop-put.invariant.under_way tells s l p w m t floor laid from new next same begins some ends parts safe under in
    let bytes = c.escape.ensures.stored ∙ ap stored_of c.bytes.ensures.bytes ∙ sym (index_map stored_put c.args.paid.now k c.put-item.result here) ∙ parts k (omega (arith, c.loop-put-test.true, length-map c.args.paid.now stored_put)) in (
      c.in_err-ticket.ensures.under_way tells s l p w m t floor (from + k) laid _ new next (omega (arith, some)) (omega (arith, ends, c.loop-put-test.true))
          (c.ring_block.ensures.block ∙ place_is c.args.geom.now l.geom c.loop-put.at c.args.first w.says.place from k c.loop-put.invariant.at same begins) bytes was.0 was.1,
      IfOk-from_err _ _ c.from_residual.ensures.0,
    )

pub loop-put-preserved : goal.loop-put-preserved
loop-put-preserved g c =
    let k = c.loop-put.put-index in
    let here = slice_get_read c.args.paid.now _ k c.put-item.result refl c.loop-put-test.true c.put-item.is in
    let room : vec_len c.loop-put.tickets < vec_capacity c.loop-put.tickets = omega (arith, c.requires.room, c.loop-put.invariant.taken, c.loop-put.invariant.capacity, c.loop-put-test.true) in
    let items : c.push.new.self.items ≡ c.loop-put.tickets.items ++ c.in_ok-ticket.ticket ∷ [] = c.push.ensures.items ∙ cond-true _ _ _ (c.push.ensures.succeeds room) in
    record {
      at = omega (arith, c.loop-put.invariant.at);
      spends = still_more false _ _ _ c.loop-put.invariant.spends c.in_ok-ticket.ensures.spends;
      taken = c.push.ensures.len ∙ cond-true _ _ _ (c.push.ensures.succeeds room) ∙ omega (arith, c.loop-put.invariant.taken);
      capacity = omega (arith, c.push.ensures.capacity, c.loop-put.invariant.capacity);
      log = λ tells.
          let is = write_is c.args.geom.now c.args.first c.loop-put.at c.loop-put.put-index c.args.paid.now c.put-item.result c.ring_block.result c.escape.new.into c.bytes.result.now here c.ring_block.ensures.block c.loop-put.invariant.at c.escape.ensures.stored c.bytes.ensures.bytes in
          c.writes_join_a_log_one_by_one.ensures.more (ring_writes c.args.geom.now c.args.first (map stored_put c.args.paid.now)) k c.ring_block.result c.escape.new.into c.in_ok-ticket.ticket c.args.tickets.now.items c.loop-put.tickets.items c.push.new.self.items (g.D.Disk.state c.args.disk.now).log (g.D.Disk.state c.loop-put.disk).log (g.D.Disk.state c.write_part.new.disk).log is items (c.loop-put.invariant.log tells) (c.in_ok-ticket.ensures.log tells);
      under_way = λ tells s l p w m t floor laid from new next same begins some ends parts safe under.
          let was = c.loop-put.invariant.under_way tells s l p w m t floor laid from new next same begins some ends parts safe under in
          let bytes = c.escape.ensures.stored ∙ ap stored_of c.bytes.ensures.bytes ∙ sym (index_map stored_put c.args.paid.now k c.put-item.result here) ∙ parts k (omega (arith, c.loop-put-test.true, length-map c.args.paid.now stored_put)) in
          let now = c.in_ok-ticket.ensures.under_way tells s l p w m t floor (from + k) laid _ new next (omega (arith, some)) (omega (arith, ends, c.loop-put-test.true))
          (c.ring_block.ensures.block ∙ place_is c.args.geom.now l.geom c.loop-put.at c.args.first w.says.place from k c.loop-put.invariant.at same begins) bytes was.0 was.1 in (
            now.0,
            subst (λ n. IsPartlyWritten (g.D.Disk.state c.write_part.new.disk).base (g.D.Disk.state c.write_part.new.disk).log l p w c.push.new.self.items laid n) (s1 from k)
                (subst (λ (ts : List ℕ). IsPartlyWritten (g.D.Disk.state c.write_part.new.disk).base (g.D.Disk.state c.write_part.new.disk).log l p w ts laid (from + k + 1)) (sym items) now.1),
          );
    }
  where
    s1 : (a b : ℕ) → a + b + 1 ≡ a + (b + 1)
    s1 a b = omega arith

pub returns-clause-log : goal.returns-clause-log
returns-clause-log g c = λ tells. c.writes_join_a_log_one_by_one.ensures.all (ring_writes c.args.geom.now c.args.first (map stored_put c.args.paid.now)) c.loop-put.put-index c.args.tickets.now.items c.loop-put.tickets.items _ _
    (omega (arith, c.loop-put-test.false, length_ring_writes c.args.geom.now c.args.first (map stored_put c.args.paid.now), length-map c.args.paid.now stored_put)) (c.loop-put.invariant.log tells)

pub returns-clause-under_way : goal.returns-clause-under_way
returns-clause-under_way g c = λ tells s l p w m t floor laid from new next same begins some ends parts safe under.
    let was = c.loop-put.invariant.under_way tells s l p w m t floor laid from new next same begins some ends parts safe under in
    (was.0, subst (λ n. IsPartlyWritten (g.D.Disk.state c.loop-put.disk).base (g.D.Disk.state c.loop-put.disk).log l p w c.loop-put.tickets.items laid (from + n)) (omega (arith, c.loop-put-test.false, c.loop-put.auto.put-index-end)) was.1)
