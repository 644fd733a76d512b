-- Each turn takes the first one off, and gives its places back.
use Rattle.std.proofs.Common.{◌≡◌, ◌∷◌, ◌++◌, ◌+◌, Option, IfOk, option_to_list, drop, take, map, sym, ap, ◌∙◌, subst, arith}
use Rattle.engine_running.specs.declared.states.Placed.{Placed}
use Rattle.engine_running.specs.States.{IsReleasedOf}
use Rattle.engine_checkpoint.specs.Kept.{placed_count, total}
use Rattle.engine_checkpoint.proofs.KeptRows.{drop_next, drop_rest, total_next, total_more, without_more}
use Rattle.engine_checkpoint.proofs.header.release_placed.Goals as goal

pub release-requires : goal.release-requires
release-requires c =
    let ps = c.args.placed.now.items in
    let k = c.loop-turn.turn in
    let took : drop k ps ≡ c.unwrap-first.result ∷ c.pop_front.new.self.items = sym c.loop-turn.invariant.items ∙ c.pop_front.ensures.items ∙ ap (λ (o : Option Placed). option_to_list o ++ c.pop_front.new.self.items) c.unwrap-first.ensures in
    let is = drop_next k ps c.pop_front.new.self.items c.unwrap-first.result took in
    let of : IsReleasedOf c.unwrap-first.result c.unwrap-released.result = subst (λ r. IfOk r (IsReleasedOf c.unwrap-first.result)) c.unwrap-released.ensures c.released.ensures.ok in
    omega (arith, of.count, total_next placed_count k ps c.unwrap-first.result is, total_more placed_count (k + 1) c.args.count ps (omega (arith, c.loop-turn-test.true)), c.requires.taken, ap (λ (r : Rattle.layout_journal.specs.Ring.RingPlaces). r.taken) c.loop-turn.invariant.ring)

pub loop-turn-preserved : goal.loop-turn-preserved
loop-turn-preserved c =
    let ps = c.args.placed.now.items in
    let k = c.loop-turn.turn in
    let took : drop k ps ≡ c.unwrap-first.result ∷ c.pop_front.new.self.items = sym c.loop-turn.invariant.items ∙ c.pop_front.ensures.items ∙ ap (λ (o : Option Placed). option_to_list o ++ c.pop_front.new.self.items) c.unwrap-first.ensures in
    let is = drop_next k ps c.pop_front.new.self.items c.unwrap-first.result took in
    let of : IsReleasedOf c.unwrap-first.result c.unwrap-released.result = subst (λ r. IfOk r (IsReleasedOf c.unwrap-first.result)) c.unwrap-released.ensures c.released.ensures.ok in
    record {
      items = drop_rest k ps c.pop_front.new.self.items c.unwrap-first.result took;
      capacity = c.pop_front.ensures.capacity ∙ c.loop-turn.invariant.capacity;
      ring = without_more c.args.ring.now c.loop-turn.ring c.release.new.self _ _ _ c.loop-turn.invariant.ring c.release.ensures (total_next placed_count k ps c.unwrap-first.result is ∙ ap (λ n. total (map placed_count (take k ps)) + n) (sym of.count));
    }
