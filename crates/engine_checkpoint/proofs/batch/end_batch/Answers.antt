-- The batch is placed, and its tickets leave the notes.
use Rattle.std.proofs.Common.{arith, ◌≡◌, ◌++◌, ◌≤◌, true, List, [], take, map, slice_get, sym, ◌∙◌, ap}
use Rattle.std.proofs.lemmas.Bool.Decides.{nat_tests}
use Rattle.std.proofs.lemmas.Option.{slice_get_read}
use Rattle.engine_checkpoint.specs.declared.pipeline.Pipeline.{Pipeline}
use Rattle.engine_checkpoint.specs.Turns.{EndsBatch, last_of_batch}
use Rattle.engine_checkpoint.proofs.Homes.{home_noticed, agrees_at_home}
use Rattle.engine_checkpoint.proofs.BatchEnds.{take_front, few_in_batch, order_ended, room_ended, owed_ended}
use Rattle.engine_checkpoint.proofs.Numbers.{sure_number}
use Rattle.engine_checkpoint.proofs.Index.{kept_ended}
use Rattle.engine_checkpoint.proofs.Payloads.{index_placed_by}
use Rattle.engine_checkpoint.proofs.Placing.{have_at}
use Rattle.std.proofs.lemmas.Bool.{lt-ltb, cond-true}
use Rattle.crash_argument.specs.PipelineData.{IsHomeNoticed, with_placed}
use Rattle.engine_notes.specs.Notes.{none_open}
use Rattle.layout_geometry.specs.Geometry.{Geometry}
use Rattle.engine_checkpoint.specs.declared.pipeline.HomeWrite.{HomeWrite}
use Rattle.engine_checkpoint.specs.Agree.{data_of, home_pair, home_ticket}
use Rattle.engine_checkpoint.specs.Kept.{Kept, of_sure, of_durable, of_committed, kept}
use Rattle.engine_checkpoint.specs.Batch.{have_payload}
use Rattle.engine_checkpoint.proofs.batch.end_batch.Goals as goal

pub place_first-pipeline-requires-clause-few : goal.place_first-pipeline-requires-clause-few
place_first-pipeline-requires-clause-few c = omega (arith, few_in_batch c.args.pipeline.now c.requires.order.batch, c.requires.order.unplaced)

-- the pipeline then
abbrev then_is : goal.After-clear → Pipeline
then_is c = record c.args.pipeline.now {
  notes = c.forget_all.new.notes;
  placed = c.place_first-pipeline.new.placed;
  sure = c.place_first-pipeline.new.records;
  batch = 0;
  home = c.clear.new.self;
  unplaced = c.place_first-pipeline.result;
  newest = c.place_first-pipeline.new.newest;
}

ends : (c : goal.After-clear) → EndsBatch c.args.pipeline.now (then_is c)
ends c = grind (arith, nat_tests, slice_get_read, sure_number)

pub returns-clause-ends : goal.returns-clause-ends
returns-clause-ends c = ends c

pub returns-clause-index : goal.returns-clause-index
returns-clause-index c =
    let v = c.args.pipeline.now in
    let first = map of_sure (take v.batch v.sure.items) in
    let batch_is : take v.batch (kept v) ≡ first = take_front of_sure v.batch v.sure.items (map of_durable v.durable.items ++ map of_committed v.committed.items) c.requires.order.batch in
    index_placed_by v (then_is c) (last_of_batch v) (λ b. have_payload b first) c.requires.order (kept_ended v (then_is c) (ends c) c.requires.order.batch) (omega (arith, c.if-pipeline-eq0.false))
    (λ b at k is has. have_at first at b k (ap (λ (ks : List Kept). slice_get ks at) (sym batch_is) ∙ is) has) (ends c).newest

pub returns-clause-fit : goal.returns-clause-fit
returns-clause-fit c = record {
  order = order_ended c.args.pipeline.now (then_is c) c.requires.order (ends c);
  room = room_ended c.args.pipeline.now (then_is c) c.requires.order (ends c) c.requires.room c.place_first-pipeline.ensures.placed_room c.place_first-pipeline.ensures.rest_room
      (omega (arith, c.clear.ensures.capacity)) c.place_first-pipeline.ensures.spare c.lawful.ensures c.notes_of_few_tickets_are_few.ensures;
}

pub returns-clause-owed : goal.returns-clause-owed
returns-clause-owed c = owed_ended c.args.pipeline.now (then_is c) c.requires.order (ends c)

pub returns-clause-agrees : goal.returns-clause-agrees
returns-clause-agrees c = λ s base log l t floor ring waiting taken safe a.
    let v = c.args.pipeline.now in
    let none : none_open (map home_ticket v.home.items) v.notes.notes ≡ true = sym (ap (λ (hs : List HomeWrite). none_open (map home_ticket hs) v.notes.notes) c.as_slice.ensures.value) ∙ sym c.no_write_is_open.ensures ∙ c.if-not-no_write_is_open.false in
    let noticed : IsHomeNoticed log (map home_pair v.home.items) = home_noticed log v.home.items v.notes.notes a.notes a.expected.home none in
    let sent : (data_of v ring waiting).sent ≡ v.geom.n = cond-true _ v.geom.n 0 (lt-ltb 0 v.batch (omega (arith, c.if-pipeline-eq0.false))) in
    let all : l.geom.n ≤ (data_of v ring waiting).sent = omega (arith, sent, ap (λ (g : Geometry). g.n) a.geom) in
    let fewer : 0 ≤ (with_placed (data_of v ring waiting)).sent = omega arith in
    agrees_at_home base log l v ring waiting taken a (then_is c) (ends c)
    (c.fewer_may_be_sent.ensures base log l (with_placed (data_of v ring waiting)) 0 (c.a_batch_comes_home.ensures.knows base log l (data_of v ring waiting) safe.keeps a.agree all noticed) fewer)
    (c.one_write_stays_pending.ensures.placed base log l (data_of v ring waiting) [] a.one noticed)
