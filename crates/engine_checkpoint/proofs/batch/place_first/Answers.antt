-- Each turn places one record more.
use Rattle.std.proofs.Common.{◌≡◌, ◌≤◌, ◌<◌, ◌+◌, ◌++◌, ◌∷◌, ◌&&◌, [], List, None, length, take, drop, map, option_to_list, if◌then◌else◌, sym, ◌∙◌, ap, subst, arith}
use Rattle.std.specs.VecDeque.{deque_len, deque_capacity}
use Rattle.std.proofs.lemmas.Bool.{cond-true}
use Rattle.engine_running.specs.declared.put.Put.{Put}
use Rattle.engine_running.specs.declared.states.Sure.{Sure}
use Rattle.engine_checkpoint.specs.Kept.{of_sure, payloads_in}
use Rattle.engine_checkpoint.specs.Newest.{spot_of, has_block, is_upto}
use Rattle.engine_checkpoint.specs.Batch.{have_payload}
use Rattle.engine_checkpoint.proofs.Placing.{take_next, drop_next, payloads_push, payloads_front, drops_next, placed_next}
use Rattle.engine_checkpoint.proofs.batch.place_first.Goals as goal

pub loop-turn-preserved : goal.loop-turn-preserved
loop-turn-preserved c =
    let all = c.args.records.now.items in
    let k = c.loop-turn.turn in
    let s = c.unwrap-sure.result in
    let front : drop k all ≡ s ∷ c.pop_front.new.self.items = sym c.loop-turn.invariant.rest ∙ c.pop_front.ensures.items ∙ ap (λ o. option_to_list o ++ c.pop_front.new.self.items) c.unwrap-sure.ensures in
    let next : take (k + 1) all ≡ take k all ++ s ∷ [] = take_next all c.pop_front.new.self.items k s front in
    let size : length c.as_slice-own.result.now ≡ length s.payloads.items = ap (λ (ps : List Put). length ps) c.as_slice-own.ensures.value in
    let more : k + 1 ≤ c.args.count = omega (arith, c.loop-turn-test.true) in
    let room : deque_len c.loop-turn.placed < deque_capacity c.loop-turn.placed = omega (arith, c.requires.room, c.loop-turn.invariant.placed_len, c.loop-turn.invariant.placed_room, c.loop-turn-test.true) in
    record {
      left = omega (arith, c.loop-turn.invariant.left, size, payloads_push (take k all) s, ap (λ (xs : List Sure). payloads_in (map of_sure xs)) next, payloads_front all (k + 1) c.args.count more, c.requires.few);
      rest = drop_next all c.pop_front.new.self.items k s front;
      rest_room = omega (arith, c.loop-turn.invariant.rest_room, c.pop_front.ensures.capacity);
      placed = placed_next c.args.placed.now.items (take k all) s c.loop-turn.placed.items c.push_back.new.self.items c.as_placed.result c.as_placed.ensures c.loop-turn.invariant.placed (c.push_back.ensures.items ∙ cond-true _ _ _ (c.push_back.ensures.succeeds room))
          ∙ ap (λ (xs : List Sure). c.args.placed.now.items ++ map Rattle.engine_checkpoint.specs.Batch.placed_of xs) (sym next);
      placed_len = c.push_back.ensures.len ∙ cond-true _ _ _ (c.push_back.ensures.succeeds room) ∙ omega (arith, c.loop-turn.invariant.placed_len);
      placed_room = omega (arith, c.loop-turn.invariant.placed_room, c.push_back.ensures.capacity);
      newest = λ b. drops_next (take k all) s b c.args.last (spot_of c.args.newest.now b) (spot_of c.loop-turn.newest b) (spot_of c.drop_upto.new.self b) (c.loop-turn.invariant.newest b)
          (subst (λ (ps : List Put). spot_of c.drop_upto.new.self b ≡ (if has_block b ps && is_upto c.args.last (spot_of c.loop-turn.newest b) then None else spot_of c.loop-turn.newest b)) c.as_slice-own.ensures.value (c.drop_upto.ensures.at b))
          ∙ ap (λ (xs : List Sure). if have_payload b (map of_sure xs) && is_upto c.args.last (spot_of c.args.newest.now b) then None else spot_of c.args.newest.now b) (sym next);
      spare = omega (arith, c.loop-turn.invariant.spare, c.drop_upto.ensures.spare);
    }

pub overflow_cast-left : goal.overflow_cast-left
overflow_cast-left c =
    let all = c.args.records.now.items in
    let k = c.loop-turn.turn in
    let s = c.unwrap-sure.result in
    let front : drop k all ≡ s ∷ c.pop_front.new.self.items = sym c.loop-turn.invariant.rest ∙ c.pop_front.ensures.items ∙ ap (λ o. option_to_list o ++ c.pop_front.new.self.items) c.unwrap-sure.ensures in
    let next : take (k + 1) all ≡ take k all ++ s ∷ [] = take_next all c.pop_front.new.self.items k s front in
    let size : length c.as_slice-own.result.now ≡ length s.payloads.items = ap (λ (ps : List Put). length ps) c.as_slice-own.ensures.value in
    let more : k + 1 ≤ c.args.count = omega (arith, c.loop-turn-test.true) in
    omega (arith, size, payloads_push (take k all) s, ap (λ (xs : List Sure). payloads_in (map of_sure xs)) next, payloads_front all (k + 1) c.args.count more, c.requires.few, c.ranges.unplaced.fits)

pub overflow_sub-left : goal.overflow_sub-left
overflow_sub-left c =
    let all = c.args.records.now.items in
    let k = c.loop-turn.turn in
    let s = c.unwrap-sure.result in
    let front : drop k all ≡ s ∷ c.pop_front.new.self.items = sym c.loop-turn.invariant.rest ∙ c.pop_front.ensures.items ∙ ap (λ o. option_to_list o ++ c.pop_front.new.self.items) c.unwrap-sure.ensures in
    let next : take (k + 1) all ≡ take k all ++ s ∷ [] = take_next all c.pop_front.new.self.items k s front in
    let size : length c.as_slice-own.result.now ≡ length s.payloads.items = ap (λ (ps : List Put). length ps) c.as_slice-own.ensures.value in
    let more : k + 1 ≤ c.args.count = omega (arith, c.loop-turn-test.true) in
    omega (arith, size, payloads_push (take k all) s, ap (λ (xs : List Sure). payloads_in (map of_sure xs)) next, payloads_front all (k + 1) c.args.count more, c.requires.few, c.loop-turn.invariant.left)
