-- The sure records are the batch, and their newest payloads are on their way.
use Rattle.std.proofs.Common.{rules, ◌≡◌, ◌≤◌, ◌<◌, ◌++◌, [], ℕ, List, length, map, drop, slice_get, Some, None, OnOk, IsSome, refl, sym, ◌∙◌, ap, subst, arith}
use Rattle.crash_argument.specs.PipelineData.{with_batch}
use Rattle.engine_running.specs.declared.put.Put.{Put}
use Rattle.engine_running.specs.Rows.{put_of}
use Rattle.engine_running.specs.Writes.{fresh_write}
use Rattle.engine_checkpoint.specs.declared.pipeline.Pipeline.{Pipeline}
use Rattle.engine_checkpoint.specs.Agree.{data_of, home_ticket}
use Rattle.std.specs.Option.{is_some}
use Rattle.std.proofs.lemmas.List.{length-map}
use Rattle.engine_checkpoint.specs.Batch.{home_block, IsHomeRow, AreHomeBlocks}
use Rattle.engine_checkpoint.specs.Index.{newest_spot}
use Rattle.engine_checkpoint.specs.HomeState.{home_of}
use Rattle.engine_checkpoint.specs.Kept.{of_sure, of_durable, of_committed, payloads_in, kept}
use Rattle.engine_checkpoint.specs.Newest.{spot_of, IsSpotList}
use Rattle.engine_checkpoint.specs.Turns.{BeginsBatch, BatchAdds, AddsBatch}
use Rattle.engine_checkpoint.proofs.BatchBegins.{sure_and_others, order_begun, owed_begun, room_begun, batch_adds, made, all_open, is_due, sure_in_row, few_header_notes}
use Rattle.engine_checkpoint.proofs.Batches.{batch_begins, agrees_or_failed}
use Rattle.engine_checkpoint.proofs.HomeBytes.{home_is_newest}
use Rattle.engine_checkpoint.proofs.HomeRows.{home_blocks, home_row, home_row_is, row_blocks, row_length}
use Rattle.engine_checkpoint.proofs.Numbers.{sure_numbers}
use Rattle.engine_checkpoint.proofs.RecordSpots.{some_below}
use Rattle.engine_checkpoint.proofs.batch.begin_batch.Given
use Rattle.engine_checkpoint.proofs.batch.begin_batch.Goals as goal

no_batch : (n : ℕ) → n ≤ 0 → n ≡ 0
no_batch n le = omega (arith, le)

-- before the step all records are behind the batch
all_behind : (v : Pipeline) → v.batch ≤ 0 → payloads_in (drop v.batch (kept v)) ≡ payloads_in (kept v)
all_behind v le = ap (λ n. payloads_in (drop n (kept v))) (no_batch v.batch le)

pub find_newest-requires-clause-room : goal.find_newest-requires-clause-room
find_newest-requires-clause-room g c = omega (arith, c.requires.room.last, all_behind c.args.pipeline.now c.if-pipeline-gt0.false, sure_and_others c.args.pipeline.now)

pub find_newest-requires-clause-small : goal.find_newest-requires-clause-small
find_newest-requires-clause-small g c = omega (arith, c.is_small.ensures, c.requires.order.unplaced, sure_and_others c.args.pipeline.now)

pub blocks-requires : goal.blocks-requires
blocks-requires g c = record { room = omega (arith, c.find_newest.ensures.count, c.requires.room.blocks, c.requires.order.unplaced, sure_and_others c.args.pipeline.now) }

pub write_batch-requires-clause-row : goal.write_batch-requires-clause-row
write_batch-requires-clause-row g c = sure_in_row c.args.pipeline.now c.requires.order

pub write_batch-requires-clause-below : goal.write_batch-requires-clause-below
write_batch-requires-clause-below g c = λ k b is.
    let v = c.args.pipeline.now in
    let at : slice_get c.blocks-2.new.into.items k ≡ Some b = ap (λ (bs : List ℕ). slice_get bs k) (sym c.as_slice.ensures.value) ∙ is in
    let has : IsSome (spot_of c.find_newest.new.newest b) = c.blocks-2.ensures.blocks.only k b at in
    let small = some_below v.geom.n v.sure.items (map of_durable v.durable.items ++ map of_committed v.committed.items) b c.requires.order.below (newest_spot None (map of_sure v.sure.items) b) refl (ap is_some (sym (c.find_newest.ensures.at b)) ∙ has) in
    omega (arith, small, c.requires.size)

pub write_batch-requires-clause-room : goal.write_batch-requires-clause-room
write_batch-requires-clause-room g c = omega (arith, ap (λ (bs : List ℕ). length bs) c.as_slice.ensures.value, c.blocks-2.ensures.count, c.find_newest.ensures.count, c.requires.room.home, c.requires.order.unplaced, sure_and_others c.args.pipeline.now)

pub write_batch-requires-clause-tickets : goal.write_batch-requires-clause-tickets
write_batch-requires-clause-tickets g c =
    let some : 0 < length c.args.pipeline.now.sure.items = search rules in
    omega (
      arith,
      ap (λ (bs : List ℕ). length bs) c.as_slice.ensures.value,
      c.blocks-2.ensures.count,
      c.find_newest.ensures.count,
      some,
      sure_numbers c.args.pipeline.now,
      c.requires.room.notes,
      few_header_notes c.args.pipeline.now,
      all_behind c.args.pipeline.now c.if-pipeline-gt0.false,
      sure_and_others c.args.pipeline.now,
    )

-- What the step has done.

module _ (g : Given.Over) (c : goal.After-write_batch g) where
  abbrev v : Pipeline
  v = c.args.pipeline.now

  abbrev w : Pipeline
  w = record v { notes = c.write_batch.new.notes; batch = c.len-pipeline.result; home = c.write_batch.new.home; batch_newest = c.find_newest.new.newest; blocks = c.blocks-2.new.into }

  abbrev bs : List ℕ
  bs = c.as_slice.result.now

  none : v.batch ≡ 0
  none = no_batch v.batch c.if-pipeline-gt0.false

  size : c.len-pipeline.result ≡ length v.sure.items
  size = search rules

  some : 0 < length v.sure.items
  some = search rules

  begins : BeginsBatch v w
  begins = record { expected = c.write_batch.ensures.expected; noticed = c.write_batch.ensures.noticed; rest = ap (λ n. record w { batch = n }) size }

  blocks : AreHomeBlocks (map of_sure v.sure.items) bs
  blocks = home_blocks (map of_sure v.sure.items) c.find_newest.new.newest bs c.find_newest.ensures.at (subst (IsSpotList c.find_newest.new.newest) (sym c.as_slice.ensures.value) c.blocks-2.ensures.blocks)

  abbrev row : List Put
  row = home_row (map of_sure v.sure.items) bs

  row_is : IsHomeRow (map of_sure v.sure.items) row
  row_is = home_row_is (map of_sure v.sure.items) bs blocks

  few : length bs ≤ payloads_in (map of_sure v.sure.items)
  few = omega (arith, ap (λ (ns : List ℕ). length ns) c.as_slice.ensures.value, c.blocks-2.ensures.count, c.find_newest.ensures.count)

  few_home : length c.write_batch.new.home.items ≤ payloads_in (map of_sure v.sure.items)
  few_home = omega (arith, few, c.write_batch.ensures.few)

pub returns-clause-begins : goal.returns-clause-begins
returns-clause-begins g c = subst (λ d. BatchAdds d c.write_batch.result (v g c) (w g c)) (sym (is_due (v g c) (none g c) (some g c)))
    (batch_adds c.write_batch.result (v g c) (w g c) (begins g c) (subst (λ (ns : List ℕ). OnOk c.write_batch.result (map home_block c.write_batch.new.home.items ≡ ns)) c.as_slice.ensures.value c.write_batch.ensures.listed) (subst (AreHomeBlocks (map of_sure (v g c).sure.items)) c.as_slice.ensures.value (blocks g c)))

pub returns-clause-log : goal.returns-clause-log
returns-clause-log g c = λ tells. subst (λ d. AddsBatch d c.write_batch.result (v g c) (w g c) (g.D.Disk.state c.args.disk.now).log (g.D.Disk.state c.write_batch.new.disk).log) (sym (is_due (v g c) (none g c) (some g c)))
    (row g c, row_is g c, c.write_batch.ensures.log tells (row g c) (row_is g c) (row_blocks (map of_sure (v g c).sure.items) (bs g c)))

pub returns-clause-open : goal.returns-clause-open
returns-clause-open g c = λ tells due told. all_open c.noticed_tickets_stay_so.ensures (map fresh_write (row g c)) c.write_batch.result _ _ (v g c) (w g c) (begins g c) told
    (c.write_batch.ensures.log tells (row g c) (row_is g c) (row_blocks (map of_sure (v g c).sure.items) (bs g c)))

pub returns-clause-fit : goal.returns-clause-fit
returns-clause-fit g c = record {
  order = order_begun (v g c) (w g c) c.requires.order (begins g c) (none g c) (some g c) (few_home g c);
  room = room_begun (v g c) (w g c) c.requires.order (begins g c) (none g c) (some g c) (few_home g c) c.requires.room (length (bs g c)) (few g c) c.write_batch.ensures.home_room c.blocks-2.ensures.capacity c.find_newest.ensures.spare c.write_batch.ensures.notes_room;
}

pub returns-clause-owed : goal.returns-clause-owed
returns-clause-owed g c = λ tells. omega (
  arith,
  owed_begun (v g c) (w g c) c.requires.order (begins g c) (none g c) (some g c) (few_home g c),
  made (map fresh_write (row g c)) c.write_batch.result (map home_ticket c.write_batch.new.home.items) _ _ c.a_record_makes_so_many_writes.ensures.accepted c.a_record_makes_so_many_writes.ensures.failed
      (c.write_batch.ensures.log tells (row g c) (row_is g c) (row_blocks (map of_sure (v g c).sure.items) (bs g c))),
  length-map (row g c) fresh_write,
  row_length (row g c) (bs g c) (row_blocks (map of_sure (v g c).sure.items) (bs g c)),
  few g c,
)

pub returns-clause-agrees : goal.returns-clause-agrees
returns-clause-agrees g c = λ tells s l t floor ring waiting taken safe a.
    let base = (g.D.Disk.state c.args.disk.now).base in
    let log = (g.D.Disk.state c.args.disk.now).log in
    let ks = map of_sure (v g c).sure.items in
    let count = length (v g c).sure.items in
    let p = data_of (v g c) ring waiting in
    let test : (b : ℕ) → home_of l (with_batch p count) a.freed b ≡ put_of b (row g c) = λ b. home_is_newest base log l (v g c) ring waiting taken a b ∙ sym ((row_is g c).each b) in
    let st = batch_begins base log l (v g c) ring waiting taken a count refl (c.a_batch_goes_home.ensures.taken base log l p count safe.keeps a.agree (none g c) a.sure) (c.one_write_stays_pending.ensures.batch base log l p [] count a.one (none g c)) in
    let done = c.write_batch.ensures.home tells (row g c) (row_is g c) (row_blocks ks (bs g c)) s l (with_batch p count) a.freed taken t floor safe st refl refl test in (
      done.0,
      agrees_or_failed base _ log _ l (v g c) ring waiting taken a (some g c) (w g c) (begins g c) (map fresh_write (row g c)) c.write_batch.result _ c.write_batch.ensures.spends.same.base c.requires.size c.noticed_tickets_stay_so.ensures
          (c.write_batch.ensures.log tells (row g c) (row_is g c) (row_blocks ks (bs g c))) done.1,
    )
