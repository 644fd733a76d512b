-- The oldest committed transaction is settled: its record is known, and it is the last durable one.
use Rattle.std.proofs.Common.{length, length-append, deque_len, deque_capacity, option_to_list, ap, arith, ◌≡◌, ◌≤◌, ◌+◌, ◌++◌, ◌∷◌, [], List, ◌<◌, slice_get, true, ◌∙◌, refl, sym, subst, IfOk, OnOk}
use Rattle.std.proofs.lemmas.Bool.Decides.{nat_tests}
use Rattle.engine_checkpoint.proofs.Dropped.{room_of_header}
use Rattle.engine_checkpoint.proofs.Orders.{kept_settled, order_settled, room_settled}
use Rattle.engine_checkpoint.proofs.Durables.{newly, agrees_durable}
use Rattle.std.specs.Result.{is_ok}
use Rattle.crash_argument.specs.Ledger.{next_number}
use Rattle.crash_argument.specs.Steps.{with_known}
use Rattle.engine_notes.specs.Notes.{are_noticed}
use Rattle.engine_running.specs.declared.commit.Committed.{Committed}
use Rattle.engine_running.specs.States.{IsDurableOf, Forgets}
use Rattle.engine_checkpoint.specs.Agree.{data_of}
use Rattle.std.proofs.lemmas.Bool.{and_parts, cond-true}
use Rattle.engine_running.specs.declared.states.Durable.{Durable}
use Rattle.engine_checkpoint.specs.declared.pipeline.Pipeline.{Pipeline}
use Rattle.engine_checkpoint.proofs.pipeline.settle_first.Goals as goal

pub returns-clause-agrees : goal.returns-clause-agrees
returns-clause-agrees c = λ s base log l t floor ring waiting taken safe a.
    let v = c.args.pipeline.now in
    let tx = c.unwrap-first.result in
    let d = c.unwrap-durable.result in
    let cs = c.pop_front.new.self in
    let first : v.committed.items ≡ tx ∷ cs.items = c.pop_front.ensures.items ∙ ap (λ o. option_to_list o ++ cs.items) c.unwrap-first.ensures in
    let all_came : are_noticed tx.tickets.items v.notes.notes ≡ true = sym (c.expected_tickets_are_noticed_or_open.ensures tx.tickets.items v.notes.notes (a.expected.records 0 tx (ap (λ (xs : List Committed). slice_get xs 0) first))) ∙ sym c.settled_for_good.ensures.exact ∙ ap is_ok c.unwrap-durable.ensures in
    let is_of : IsDurableOf tx d = subst (λ r. IfOk r (IsDurableOf tx)) c.unwrap-durable.ensures c.settled_for_good.ensures.ok in
    let forgets : Forgets tx.tickets.items v.notes c.settled_for_good.new.notes = subst (λ r. OnOk r (Forgets tx.tickets.items v.notes c.settled_for_good.new.notes)) c.unwrap-durable.ensures c.settled_for_good.ensures.forgets in
    let more : c.push_back.new.self.items ≡ v.durable.items ++ d ∷ [] = c.push_back.ensures.items ∙ cond-true _ _ _ (c.push_back.ensures.succeeds (omega (arith, c.requires.room.durable, c.pop_front.ensures.len, ap (λ o. length (option_to_list o)) c.unwrap-first.ensures))) in
    let upto : l.known + 1 ≤ next_number l = omega (arith, a.known, a.count, ap (λ (xs : List Committed). length xs) first) in
    let grows : l.known ≤ l.known + 1 = omega arith in
    let noticed = c.records_become_durable.ensures.newly base log l (data_of v ring waiting) (l.known + 1) safe.keeps a.agree grows upto
    (newly base log l v ring waiting taken a safe.keeps tx cs.items first all_came (λ k w is. c.records_stand_in_order.ensures.numbers base log l k w safe.keeps is)) in (
      c.noticed_records_are_known.ensures.known s base log l t floor (l.known + 1) noticed safe,
      agrees_durable base log l v ring waiting taken a safe.keeps tx cs.items first all_came d is_of (record v { committed = cs; durable = c.push_back.new.self }) refl more c.settled_for_good.new.notes forgets (λ k w is. c.records_stand_in_order.ensures.numbers base log l k w safe.keeps is)
          (c.records_become_durable.ensures.knows base log l (data_of v ring waiting) (l.known + 1) safe.keeps a.agree grows)
          (c.one_write_stays_pending.ensures.known base log l (data_of v ring waiting) [] (l.known + 1) a.one safe.keeps noticed)
          (λ p tickets. c.known_tickets_may_go.ensures base log (with_known l (l.known + 1)) p tickets)
          (c.taken_blocks_stay_dead.ensures.known log l (data_of v ring waiting) taken (l.known + 1) a.free),
    )

pub returns-clause-settles : goal.returns-clause-settles
returns-clause-settles c =
    let v = c.args.pipeline.now in
    let tx = c.unwrap-first.result in
    let d = c.unwrap-durable.result in
    let cs = c.pop_front.new.self in
    record {
      first = tx;
      settled = d;
      was = c.pop_front.ensures.items ∙ ap (λ o. option_to_list o ++ cs.items) c.unwrap-first.ensures;
      keeps = subst (λ r. IfOk r (IsDurableOf tx)) c.unwrap-durable.ensures c.settled_for_good.ensures.ok;
      durable = c.push_back.ensures.items ∙ cond-true _ _ _ (c.push_back.ensures.succeeds (omega (arith, c.requires.room.durable, c.pop_front.ensures.len, ap (λ o. length (option_to_list o)) c.unwrap-first.ensures)));
      forgets = subst (λ r. OnOk r (Forgets tx.tickets.items v.notes c.settled_for_good.new.notes)) c.unwrap-durable.ensures c.settled_for_good.ensures.forgets;
      rest = refl;
    }

pub returns-clause-exact : goal.returns-clause-exact
returns-clause-exact c = grind (arith, nat_tests, option_to_list)

pub unwrap-requires : goal.unwrap-requires
unwrap-requires c = c.push_back.ensures.succeeds (omega (arith, c.requires.room.durable, c.pop_front.ensures.len, ap (λ o. length (option_to_list o)) c.unwrap-first.ensures))

pub returns-clause-fit : goal.returns-clause-fit
returns-clause-fit c = record {
  order = let v = c.args.pipeline.now in
      let tx = c.unwrap-first.result in
      let d = c.unwrap-durable.result in
      let cs = c.pop_front.new.self in
      let w : Pipeline = record v { committed = cs; durable = c.push_back.new.self; notes = c.settled_for_good.new.notes } in
      let first : v.committed.items ≡ tx ∷ cs.items = c.pop_front.ensures.items ∙ ap (λ o. option_to_list o ++ cs.items) c.unwrap-first.ensures in
      let is_of : IsDurableOf tx d = subst (λ r. IfOk r (IsDurableOf tx)) c.unwrap-durable.ensures c.settled_for_good.ensures.ok in
      let more : c.push_back.new.self.items ≡ v.durable.items ++ d ∷ [] = c.push_back.ensures.items ∙ cond-true _ _ _ (c.push_back.ensures.succeeds (omega (arith, c.requires.room.durable, c.pop_front.ensures.len, ap (λ o. length (option_to_list o)) c.unwrap-first.ensures))) in
      order_settled v w refl (kept_settled v w tx d refl first more is_of) (omega (arith, length-append v.durable.items (d ∷ []), ap (λ (ds : List Durable). length ds) more)) c.requires.order;
  room = let v = c.args.pipeline.now in
      let tx = c.unwrap-first.result in
      let d = c.unwrap-durable.result in
      let cs = c.pop_front.new.self in
      let w : Pipeline = record v { committed = cs; durable = c.push_back.new.self; notes = c.settled_for_good.new.notes } in
      let first : v.committed.items ≡ tx ∷ cs.items = c.pop_front.ensures.items ∙ ap (λ o. option_to_list o ++ cs.items) c.unwrap-first.ensures in
      let is_of : IsDurableOf tx d = subst (λ r. IfOk r (IsDurableOf tx)) c.unwrap-durable.ensures c.settled_for_good.ensures.ok in
      let forgets : Forgets tx.tickets.items v.notes c.settled_for_good.new.notes = subst (λ r. OnOk r (Forgets tx.tickets.items v.notes c.settled_for_good.new.notes)) c.unwrap-durable.ensures c.settled_for_good.ensures.forgets in
      let less : deque_len cs + 1 ≡ deque_len v.committed = ap (λ o. deque_len cs + length (option_to_list o)) (sym c.unwrap-first.ensures) ∙ c.pop_front.ensures.len in
      let room : deque_len v.durable < deque_capacity v.durable = omega (arith, c.requires.room.durable, less) in
      let more : c.push_back.new.self.items ≡ v.durable.items ++ d ∷ [] = c.push_back.ensures.items ∙ cond-true _ _ _ (c.push_back.ensures.succeeds room) in
      let one : deque_len c.push_back.new.self ≡ deque_len v.durable + 1 = c.push_back.ensures.len ∙ cond-true _ _ _ (c.push_back.ensures.succeeds room) in
      room_settled v w refl (kept_settled v w tx d refl first more is_of) (omega (arith, less, one)) (omega (arith, less)) c.push_back.ensures.capacity (omega (arith, c.pop_front.ensures.capacity))
      (room_of_header c.notes_of_few_tickets_are_few.ensures v.next v.notes c.settled_for_good.new.notes c.lawful-2.ensures (λ u e. (and_parts _ _ (sym (forgets.expected u) ∙ e)).1) forgets.room) c.requires.room;
}
