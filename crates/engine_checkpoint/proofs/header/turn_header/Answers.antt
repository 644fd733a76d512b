-- The pending header is noticed, and becomes the durable one.
use Rattle.std.proofs.Common.{◌≡◌, ◌-◌, true, [], ◌∷◌, Some, take, drop, map, option_map, sym, ◌∙◌, ap, subst, arith}
use Rattle.engine_notes.specs.Notes.{is_noticed}
use Rattle.layout_journal.specs.declared.header.Header.{Header}
use Rattle.layout_journal.specs.Ring.{RingPlaces, without_places}
use Rattle.crash_argument.specs.Points.{IsSafe}
use Rattle.crash_argument.specs.Steps.{with_durable_header}
use Rattle.engine_running.specs.States.{Forgets}
use Rattle.engine_checkpoint.specs.Agree.{PipelineAgrees, data_of, header_in, ticket_in}
use Rattle.engine_checkpoint.specs.Kept.{placed_count, total}
use Rattle.engine_checkpoint.specs.Turns.{with_turned}
use Rattle.engine_checkpoint.proofs.TurnedOrder.{turned_to, placed_before, durable_upto, released_taken, order_turned, room_turned, taken_turned, owed_turned}
use Rattle.engine_checkpoint.proofs.FewerNotes.{room_back}
use Rattle.engine_checkpoint.proofs.Turned.{closed_noticed, agrees_released}
use Rattle.engine_checkpoint.proofs.header.turn_header.Goals as goal

pub release_placed-requires-clause-before : goal.release_placed-requires-clause-before
release_placed-requires-clause-before c = placed_before c.args.pipeline.now c.requires.fit.order c.in-Some.pending c.in-Some.is

pub release_placed-requires-clause-taken : goal.release_placed-requires-clause-taken
release_placed-requires-clause-taken c = omega (arith, released_taken c.args.pipeline.now c.requires.fit.order c.in-Some.pending c.in-Some.is, c.requires.taken)

pub make_sure-requires-clause-upto : goal.make_sure-requires-clause-upto
make_sure-requires-clause-upto c = durable_upto c.args.pipeline.now c.requires.fit.order c.in-Some.pending c.in-Some.is

pub returns-clause-fit : goal.returns-clause-fit
returns-clause-fit c = record {
  order = let out = turned_to c.args.pipeline.now c.in-Some.pending 0 (record c.args.pipeline.now { placed = c.release_placed.new.placed; sure = c.make_sure.new.sure; durable = c.make_sure.new.durable }) c.forget.new.self in
      order_turned c.args.pipeline.now c.requires.fit.order c.in-Some.pending c.in-Some.is c.other_slot-pipeline.result out c.forget.new.self c.make_sure.ensures.sure.0 c.release_placed.ensures.items c.make_sure.ensures.sure.1 c.make_sure.ensures.durable c.make_sure.ensures.sure.2 c.make_sure.ensures.sure.3;
  room = let v = c.args.pipeline.now in
      let out = turned_to v c.in-Some.pending 0 (record v { placed = c.release_placed.new.placed; sure = c.make_sure.new.sure; durable = c.make_sure.new.durable }) c.forget.new.self in
      let gone : Forgets (c.in-Some.pending.ticket ∷ []) v.notes c.forget.new.self = record { expected = c.forget.ensures.expected; noticed = c.forget.ensures.noticed; room = c.forget.ensures.room } in
      room_turned v c.requires.fit.order c.in-Some.pending c.in-Some.is c.other_slot-pipeline.result out c.forget.new.self c.make_sure.ensures.sure.0 c.release_placed.ensures.items c.make_sure.ensures.sure.1 c.make_sure.ensures.durable c.make_sure.ensures.sure.2 c.make_sure.ensures.sure.3
      c.requires.fit.room c.release_placed.ensures.capacity c.make_sure.ensures.capacity.1 c.make_sure.ensures.capacity.0 (room_back c.notes_of_few_tickets_are_few.ensures c.in-Some.pending.ticket v.notes c.forget.new.self c.lawful.ensures gone);
}

pub returns-clause-taken : goal.returns-clause-taken
returns-clause-taken c =
    let v = c.args.pipeline.now in
    let out = turned_to v c.in-Some.pending 0 (record v { placed = c.release_placed.new.placed; sure = c.make_sure.new.sure; durable = c.make_sure.new.durable }) c.forget.new.self in
    ap (λ (r : RingPlaces). r.taken) c.release_placed.ensures.ring ∙ ap (λ n. n - total (map placed_count (take (c.in-Some.pending.header.start - v.header.start) v.placed.items))) c.requires.taken
    ∙ sym (taken_turned v c.requires.fit.order c.in-Some.pending c.in-Some.is c.other_slot-pipeline.result out c.forget.new.self c.make_sure.ensures.sure.0 c.release_placed.ensures.items c.make_sure.ensures.sure.1 c.make_sure.ensures.durable c.make_sure.ensures.sure.2 c.make_sure.ensures.sure.3)

pub returns-clause-owed : goal.returns-clause-owed
returns-clause-owed c =
    let v = c.args.pipeline.now in
    let out = turned_to v c.in-Some.pending 0 (record v { placed = c.release_placed.new.placed; sure = c.make_sure.new.sure; durable = c.make_sure.new.durable }) c.forget.new.self in
    owed_turned v c.requires.fit.order c.in-Some.pending c.in-Some.is c.other_slot-pipeline.result out c.forget.new.self c.make_sure.ensures.sure.0 c.release_placed.ensures.items c.make_sure.ensures.sure.1 c.make_sure.ensures.durable c.make_sure.ensures.sure.2 c.make_sure.ensures.sure.3

pub returns-clause-agrees : goal.returns-clause-agrees
returns-clause-agrees c = λ s base log l t floor waiting taken safe a.
    let v = c.args.pipeline.now in
    let q = c.in-Some.pending in
    let h = q.header in
    let is_next : v.next ≡ Some q = c.in-Some.is in
    let out = turned_to v q 0 (record v { placed = c.release_placed.new.placed; sure = c.make_sure.new.sure; durable = c.make_sure.new.durable }) c.forget.new.self in
    let gone : Forgets (q.ticket ∷ []) v.notes c.forget.new.self = record { expected = c.forget.ensures.expected; noticed = c.forget.ensures.noticed; room = c.forget.ensures.room } in
    let standing : l.next ≡ Some h = a.next ∙ ap (option_map header_in) is_next in
    let came : is_noticed q.ticket v.notes.notes ≡ true = closed_noticed q.ticket v.notes.notes (sym c.is_open.ensures ∙ c.if-is_open.false) (a.expected.header q is_next) in
    let durable = c.a_header_becomes_durable.ensures.durable base log l (data_of v c.args.ring.now waiting) h q.ticket safe.keeps a.agree standing (ap (option_map ticket_in) is_next) (a.notes q.ticket came) in
    let agrees = agrees_released base log l v c.args.ring.now waiting taken a safe.keeps q is_next out c.make_sure.ensures.sure.0 c.other_slot-pipeline.result c.forget.new.self c.other_slot-pipeline.ensures gone
    (c.release_placed.ensures.items ∙ ap (λ (k : Header). drop (h.start - k.start) v.placed.items) a.header) c.make_sure.ensures.sure.1 (c.make_sure.ensures.durable ∙ ap (λ (k : Header). drop (h.sure - k.sure) v.durable.items) a.header)
    (c.make_sure.ensures.sure.2 ∙ ap (λ (k : Header). h.sure - k.sure) a.header) c.make_sure.ensures.sure.3
    (c.a_header_becomes_durable.ensures.knows base log l (data_of v c.args.ring.now waiting) h safe.keeps a.agree durable)
    (c.one_write_stays_pending.ensures.durable base log l (data_of v c.args.ring.now waiting) [] h a.one safe.keeps a.agree.new durable)
    (c.nothing_is_written_between_records.ensures.durable base log l h safe.keeps standing a.idle)
    (c.taken_blocks_stay_dead.ensures.durable base log l (data_of v c.args.ring.now waiting) taken h safe.keeps standing a.free)
    (λ p tickets. c.known_tickets_may_go.ensures base log (with_durable_header l h) p tickets)
    (λ p many. c.more_may_wait.ensures base log (with_durable_header l h) p many) in
    let ring_is : c.release_placed.new.ring ≡ without_places c.args.ring.now (total (map placed_count (take (h.start - l.header.start) v.placed.items))) = c.release_placed.ensures.ring ∙ ap (λ (k : Header). without_places c.args.ring.now (total (map placed_count (take (h.start - k.start) v.placed.items)))) a.header in
    let w = turned_to v q c.other_slot-pipeline.result out c.forget.new.self in
    subst (λ o. IsSafe s base log (with_turned o l) t floor × PipelineAgrees base log (with_turned o l) w c.release_placed.new.ring waiting taken) (sym is_next) (
      c.a_durable_header_is_safe.ensures.turns s base log l t floor h durable safe,
      subst (λ r. PipelineAgrees base log (with_durable_header l h) w r waiting taken) (sym ring_is) agrees,
    )
