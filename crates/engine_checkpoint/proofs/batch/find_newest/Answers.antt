-- Each turn takes one record in.
use Rattle.std.proofs.Common.{rules, ◌≡◌, ◌<◌, ◌+◌, ◌++◌, ◌∷◌, [], ℕ, List, None, length, take, map, sym, ◌∙◌, ap, arith}
use Rattle.engine_running.specs.declared.put.Put.{Put}
use Rattle.engine_running.specs.declared.states.Sure.{Sure}
use Rattle.engine_checkpoint.specs.Kept.{Kept, of_sure, payloads_in}
use Rattle.engine_checkpoint.specs.Newest.{spot_of, spot_after}
use Rattle.engine_checkpoint.specs.Index.{newest_spot}
use Rattle.engine_checkpoint.proofs.Lists.{map_push}
use Rattle.engine_checkpoint.proofs.Placing.{take_at_next, payloads_push, payloads_part}
use Rattle.engine_checkpoint.proofs.Index.{newest_push}
use Rattle.engine_checkpoint.proofs.batch.find_newest.Goals as goal

pub loop-at-preserved : goal.loop-at-preserved
loop-at-preserved c =
    let ss = c.args.records.now.items in
    let k = c.loop-at.at in
    let s = c.index-sure.result.now in
    let within : k < length ss = search rules in
    let next : take (k + 1) ss ≡ take k ss ++ s ∷ [] = take_at_next ss k s within ∙ ap (λ (x : Sure). take k ss ++ x ∷ []) (sym c.index-sure.ensures) in
    let size : length c.as_slice.result.now ≡ length s.payloads.items = ap (λ (ps : List Put). length ps) c.as_slice.ensures.value in
    let sum : payloads_in (map of_sure (take (k + 1) ss)) ≡ payloads_in (map of_sure (take k ss)) + length s.payloads.items = ap (λ (xs : List Sure). payloads_in (map of_sure xs)) next ∙ payloads_push (take k ss) s in
    record {
      so_far = λ b. c.add.ensures.at b
          ∙ ap (λ (ps : List Put). spot_after (spot_of c.loop-at.newest b) s.number ps c.as_slice-in-loop-at.result.now c.as_slice-in-loop-at-2.result.now b) c.as_slice.ensures.value
          ∙ ap (λ (fs : List ℕ). spot_after (spot_of c.loop-at.newest b) s.number s.payloads.items fs c.as_slice-in-loop-at-2.result.now b) c.as_slice-in-loop-at.ensures.value
          ∙ ap (λ (fs : List ℕ). spot_after (spot_of c.loop-at.newest b) s.number s.payloads.items s.fresh.items fs b) c.as_slice-in-loop-at-2.ensures.value
          ∙ ap (λ o. spot_after o s.number s.payloads.items s.fresh.items s.freed.items b) (c.loop-at.invariant.so_far b)
          ∙ sym (newest_push None (map of_sure (take k ss)) (of_sure s) b)
          ∙ ap (λ (ks : List Kept). newest_spot None ks b) (sym (ap (map of_sure) next ∙ map_push of_sure (take k ss) s));
      count = omega (arith, c.add.ensures.count, c.loop-at.invariant.count, size, sum);
      spare = omega (arith, c.add.ensures.spare, c.loop-at.invariant.spare, size, sum);
    }

pub add-requires-clause-room : goal.add-requires-clause-room
add-requires-clause-room c =
    let ss = c.args.records.now.items in
    let k = c.loop-at.at in
    let s = c.index-sure.result.now in
    let within : k < length ss = search rules in
    let next : take (k + 1) ss ≡ take k ss ++ s ∷ [] = take_at_next ss k s within ∙ ap (λ (x : Sure). take k ss ++ x ∷ []) (sym c.index-sure.ensures) in
    let size : length c.as_slice.result.now ≡ length s.payloads.items = ap (λ (ps : List Put). length ps) c.as_slice.ensures.value in
    omega (arith, c.requires.room, c.loop-at.invariant.spare, size, ap (λ (xs : List Sure). payloads_in (map of_sure xs)) next ∙ payloads_push (take k ss) s, payloads_part ss (k + 1))

pub add-requires-clause-small : goal.add-requires-clause-small
add-requires-clause-small c =
    let ss = c.args.records.now.items in
    let k = c.loop-at.at in
    let s = c.index-sure.result.now in
    let within : k < length ss = search rules in
    let next : take (k + 1) ss ≡ take k ss ++ s ∷ [] = take_at_next ss k s within ∙ ap (λ (x : Sure). take k ss ++ x ∷ []) (sym c.index-sure.ensures) in
    let size : length c.as_slice.result.now ≡ length s.payloads.items = ap (λ (ps : List Put). length ps) c.as_slice.ensures.value in
    omega (arith, c.requires.small, size, ap (λ (xs : List Sure). payloads_in (map of_sure xs)) next ∙ payloads_push (take k ss) s, payloads_part ss (k + 1))
