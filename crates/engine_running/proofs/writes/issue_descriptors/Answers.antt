-- Each turn writes one descriptor more, and its ticket joins the list.
use Rattle.std.proofs.Common.{◌≡◌, ◌<◌, ◌+◌, ◌++◌, ◌∷◌, [], ℕ, List, length, slice_get, vec_len, vec_capacity, Some, ap, ◌∙◌, sym, subst, arith, false}
use Rattle.std.proofs.lemmas.Bool.{cond-true}
use Rattle.std.proofs.lemmas.Result.{IfOk-from_err}
use Rattle.layout_geometry.specs.Geometry.{Geometry, ring_block}
use Rattle.layout_journal.specs.Layout.{descriptor_count}
use Rattle.layout_journal.specs.Spelling.{descriptor_block}
use Rattle.layout_journal.specs.Run.{Record, entries, descriptor_says}
use Rattle.crash_argument.specs.Recording.{IsPartlyWritten}
use Rattle.engine_running.specs.declared.put.Put.{Put}
use Rattle.engine_running.specs.Record.{record_of, descriptor_blocks}
use Rattle.engine_running.specs.Writes.{ring_writes}
use Rattle.engine_running.proofs.spelling.Spelled.{descriptor_block_at, descriptor_block_is, length_descriptor_blocks, entries_length}
use Rattle.engine_running.proofs.logs.Logs.{all_err, ring_write_is, length_ring_writes, still, still_more}
use Rattle.engine_running.proofs.writes.issue_descriptors.Goals as goal

-- the index is that of a descriptor of the record
index_in : (number : ℕ) (paid laid : List Put) (i d : ℕ) → i < d → d ≡ descriptor_count (length paid + length laid) → i < descriptor_count (length (entries (record_of number 0 paid laid)))
index_in number paid laid i d lt e = omega (arith, lt, e, entries_length number 0 paid laid)

place_is : (g h : Geometry) (place at i : ℕ) → g ≡ h → place ≡ at → ring_block g (place + 1 + i) ≡ ring_block h (at + (1 + i))
place_is g h place at i same begins = ap (ring_block g) (sum place at i begins) ∙ ap (λ (q : Geometry). ring_block q (at + (1 + i))) same
  where
    sum : (place at i : ℕ) → place ≡ at → place + 1 + i ≡ at + (1 + i)
    sum place at i e = omega (arith, e)

-- what is written there
write_is : (g : Geometry) (place epoch : ℕ) (r : Record) (i block : ℕ) (x : List ℕ) → i < descriptor_count (length (entries r)) → block ≡ ring_block g (place + 1 + i) → x ≡ descriptor_block (descriptor_says epoch r i) → slice_get (ring_writes g (place + 1) (descriptor_blocks epoch r)) i ≡ Some (block, x)
write_is g place epoch r i block x lt b e = ring_write_is g (place + 1) (descriptor_blocks epoch r) i (descriptor_block (descriptor_says epoch r i)) (descriptor_block_is epoch r i lt)
    ∙ ap (λ n. Some (n, descriptor_block (descriptor_says epoch r i))) (sym b) ∙ ap (λ (y : List ℕ). Some (block, y)) (sym e)

pub loop-index-init : goal.loop-index-init
loop-index-init g c = record {
  spends = still _;
  taken = omega arith;
  capacity = omega arith;
  log = λ tells. c.writes_join_a_log_one_by_one.ensures.none (ring_writes c.args.geom.now (c.args.place + 1) (descriptor_blocks c.args.epoch (record_of c.args.number 0 c.args.paid.now c.args.laid.now))) c.args.tickets.now.items (g.D.Disk.state c.args.disk.now).log;
  under_way = λ tells s k p w m t floor so_far new next same begins parts ends safe under. (safe, under);
}

pub returns-in_err-ticket-clause-log : goal.returns-in_err-ticket-clause-log
returns-in_err-ticket-clause-log g c = λ tells.
    let r = record_of c.args.number 0 c.args.paid.now c.args.laid.now in
    let i = c.loop-index.index in
    let lt = index_in c.args.number c.args.paid.now c.args.laid.now i _ c.loop-index-test.true c.descriptor_count-index-end.ensures in
    let is = write_is c.args.geom.now c.args.place c.args.epoch r i c.ring_block.result c.write_descriptor.new.into lt c.ring_block.ensures.block (c.write_descriptor.ensures ∙ ap descriptor_block c.descriptor_at-descriptor.ensures) in
    all_err (ring_writes c.args.geom.now (c.args.place + 1) (descriptor_blocks c.args.epoch r)) _ _ _ _ _ c.from_residual.ensures.0
    (c.writes_join_a_log_one_by_one.ensures.failed (ring_writes c.args.geom.now (c.args.place + 1) (descriptor_blocks c.args.epoch r)) i c.ring_block.result c.write_descriptor.new.into c.args.tickets.now.items c.loop-index.tickets.items _ (g.D.Disk.state c.loop-index.disk).log _ is (c.loop-index.invariant.log tells) (c.in_err-ticket.ensures.log tells))

pub returns-in_err-ticket-clause-under_way : goal.returns-in_err-ticket-clause-under_way
returns-in_err-ticket-clause-under_way g c = λ tells s l p w m t floor so_far new next same begins parts ends safe under.
    let r = record_of c.args.number 0 c.args.paid.now c.args.laid.now in
    let i = c.loop-index.index in
    let lt = index_in c.args.number c.args.paid.now c.args.laid.now i _ c.loop-index-test.true c.descriptor_count-index-end.ensures in
    let was = c.loop-index.invariant.under_way tells s l p w m t floor so_far new next same begins parts ends safe under in
    let bytes = c.write_descriptor.ensures ∙ ap descriptor_block c.descriptor_at-descriptor.ensures ∙ sym (descriptor_block_at c.args.epoch r i lt) ∙ parts i (omega (arith, lt, length_descriptor_blocks c.args.epoch r)) in (
      c.in_err-ticket.ensures.under_way tells s l p w m t floor (1 + i) so_far _ new next (omega arith) (omega (arith, ends, c.loop-index-test.true, c.descriptor_count-index-end.ensures))
          (c.ring_block.ensures.block ∙ place_is c.args.geom.now l.geom c.args.place w.says.place i same begins) bytes was.0 was.1,
      IfOk-from_err _ _ c.from_residual.ensures.0,
    )

pub loop-index-preserved : goal.loop-index-preserved
loop-index-preserved g c =
    let r = record_of c.args.number 0 c.args.paid.now c.args.laid.now in
    let i = c.loop-index.index in
    let lt = index_in c.args.number c.args.paid.now c.args.laid.now i _ c.loop-index-test.true c.descriptor_count-index-end.ensures in
    let room : vec_len c.loop-index.tickets < vec_capacity c.loop-index.tickets = omega (arith, c.requires.room, c.loop-index.invariant.taken, c.loop-index.invariant.capacity, c.loop-index-test.true, c.descriptor_count-index-end.ensures) in
    let items : c.push.new.self.items ≡ c.loop-index.tickets.items ++ c.in_ok-ticket.ticket ∷ [] = c.push.ensures.items ∙ cond-true _ _ _ (c.push.ensures.succeeds room) in
    record {
      spends = still_more false _ _ _ c.loop-index.invariant.spends c.in_ok-ticket.ensures.spends;
      taken = c.push.ensures.len ∙ cond-true _ _ _ (c.push.ensures.succeeds room) ∙ omega (arith, c.loop-index.invariant.taken);
      capacity = omega (arith, c.push.ensures.capacity, c.loop-index.invariant.capacity);
      log = λ tells.
          let is = write_is c.args.geom.now c.args.place c.args.epoch r i c.ring_block.result c.write_descriptor.new.into lt c.ring_block.ensures.block (c.write_descriptor.ensures ∙ ap descriptor_block c.descriptor_at-descriptor.ensures) in
          c.writes_join_a_log_one_by_one.ensures.more (ring_writes c.args.geom.now (c.args.place + 1) (descriptor_blocks c.args.epoch r)) i c.ring_block.result c.write_descriptor.new.into c.in_ok-ticket.ticket c.args.tickets.now.items c.loop-index.tickets.items c.push.new.self.items (g.D.Disk.state c.args.disk.now).log (g.D.Disk.state c.loop-index.disk).log (g.D.Disk.state c.write_part.new.disk).log is items (c.loop-index.invariant.log tells) (c.in_ok-ticket.ensures.log tells);
      under_way = λ tells s l p w m t floor so_far new next same begins parts ends safe under.
          let was = c.loop-index.invariant.under_way tells s l p w m t floor so_far new next same begins parts ends safe under in
          let bytes = c.write_descriptor.ensures ∙ ap descriptor_block c.descriptor_at-descriptor.ensures ∙ sym (descriptor_block_at c.args.epoch r i lt) ∙ parts i (omega (arith, lt, length_descriptor_blocks c.args.epoch r)) in
          let now = c.in_ok-ticket.ensures.under_way tells s l p w m t floor (1 + i) so_far _ new next (omega arith) (omega (arith, ends, c.loop-index-test.true, c.descriptor_count-index-end.ensures))
          (c.ring_block.ensures.block ∙ place_is c.args.geom.now l.geom c.args.place w.says.place i same begins) bytes was.0 was.1 in (
            now.0,
            subst (λ n. IsPartlyWritten (g.D.Disk.state c.write_part.new.disk).base (g.D.Disk.state c.write_part.new.disk).log l p w c.push.new.self.items so_far n) (s1 i)
                (subst (λ (ts : List ℕ). IsPartlyWritten (g.D.Disk.state c.write_part.new.disk).base (g.D.Disk.state c.write_part.new.disk).log l p w ts so_far (1 + i + 1)) (sym items) now.1),
          );
    }
  where
    s1 : (i : ℕ) → 1 + i + 1 ≡ 1 + (i + 1)
    s1 i = omega arith

pub returns-clause-log : goal.returns-clause-log
returns-clause-log g c = λ tells.
    let r = record_of c.args.number 0 c.args.paid.now c.args.laid.now in
    c.writes_join_a_log_one_by_one.ensures.all (ring_writes c.args.geom.now (c.args.place + 1) (descriptor_blocks c.args.epoch r)) c.loop-index.index c.args.tickets.now.items c.loop-index.tickets.items _ _
    (omega (arith, c.loop-index-test.false, length_ring_writes c.args.geom.now (c.args.place + 1) (descriptor_blocks c.args.epoch r), length_descriptor_blocks c.args.epoch r, entries_length c.args.number 0 c.args.paid.now c.args.laid.now, c.descriptor_count-index-end.ensures)) (c.loop-index.invariant.log tells)

pub returns-clause-under_way : goal.returns-clause-under_way
returns-clause-under_way g c = λ tells s l p w m t floor so_far new next same begins parts ends safe under.
    let was = c.loop-index.invariant.under_way tells s l p w m t floor so_far new next same begins parts ends safe under in
    (was.0, subst (λ n. IsPartlyWritten (g.D.Disk.state c.loop-index.disk).base (g.D.Disk.state c.loop-index.disk).log l p w c.loop-index.tickets.items so_far (1 + n)) (omega (arith, c.loop-index-test.false, c.loop-index.auto.index-end, c.descriptor_count-index-end.ensures)) was.1)
