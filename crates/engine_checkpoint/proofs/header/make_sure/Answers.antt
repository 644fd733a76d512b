-- Each turn makes the first one sure.
use Rattle.std.proofs.Common.{◌≡◌, ◌∷◌, [], ◌++◌, ◌+◌, ◌<◌, Option, IfOk, option_to_list, drop, length, deque_len, sym, ap, ◌∙◌, subst, arith, length-append, append_assoc, slice_get}
use Rattle.std.specs.VecDeque.{deque_capacity}
use Rattle.std.proofs.lemmas.Bool.{cond-true}
use Rattle.engine_running.specs.declared.states.Durable.{Durable}
use Rattle.engine_running.specs.declared.states.Sure.{Sure}
use Rattle.engine_running.specs.States.{IsSureOf}
use Rattle.engine_checkpoint.proofs.KeptRows.{drop_next, drop_rest, sured_next}
use Rattle.engine_checkpoint.proofs.header.make_sure.Goals as goal

pub loop-turn-preserved : goal.loop-turn-preserved
loop-turn-preserved c =
    let ds = c.args.durable.now.items in
    let k = c.loop-turn.turn in
    let d = c.unwrap-first.result in
    let s = c.unwrap-record.result in
    let was = c.loop-turn.invariant.sure in
    let took : drop k ds ≡ d ∷ c.pop_front.new.self.items = sym c.loop-turn.invariant.durable ∙ c.pop_front.ensures.items ∙ ap (λ (o : Option Durable). option_to_list o ++ c.pop_front.new.self.items) c.unwrap-first.ensures in
    let is = drop_next k ds c.pop_front.new.self.items d took in
    let of : IsSureOf d s = subst (λ r. IfOk r (IsSureOf d)) c.unwrap-record.ensures c.sured.ensures.ok in
    let room : deque_len c.loop-turn.sure < deque_capacity c.loop-turn.sure = omega (arith, c.loop-turn.sure.ok.0, c.args.sure.now.ok.0, ap (λ (xs : Rattle.std.proofs.Common.List Sure). length xs) was.1, length-append c.args.sure.now.items was.0, was.2, c.requires.room, c.loop-turn.invariant.capacity.1, c.loop-turn-test.true) in
    record {
      sure = (was.0 ++ s ∷ [], c.push_back.ensures.items ∙ cond-true _ _ _ (c.push_back.ensures.succeeds room) ∙ ap (λ (xs : Rattle.std.proofs.Common.List Sure). xs ++ s ∷ []) was.1 ∙ append_assoc c.args.sure.now.items was.0 (s ∷ []), length-append was.0 (s ∷ []) ∙ ap (λ n. n + 1) was.2, sured_next ds was.0 d s was.3 (ap (slice_get ds) was.2 ∙ is) of);
      durable = drop_rest k ds c.pop_front.new.self.items d took;
      capacity = (c.pop_front.ensures.capacity ∙ c.loop-turn.invariant.capacity.0, omega (arith, c.loop-turn.invariant.capacity.1));
    }
