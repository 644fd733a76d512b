-- The first one is taken off. It goes to the end where its block is going home, and else its block becomes a member.
use Rattle.std.proofs.Common.{◌≡◌, ◌+◌, ◌∷◌, ◌++◌, ◌<◌, Option, length, sym, ap, ◌∙◌, arith, deque_len}
use Rattle.std.specs.Option.{option_to_list}
use Rattle.engine_reuse.specs.declared.waiting.Freed.{Freed}
use Rattle.engine_reuse.proofs.Releases.{stays_more, goes_more}
use Rattle.engine_reuse.proofs.waiting.give_up.Goals.{then-has, else-has}
use Rattle.engine_reuse.proofs.waiting.give_up.Goals as goal

pub loop-turn-preserved : goal.loop-turn-preserved
loop-turn-preserved c =
    let f : Freed = c.unwrap-freed.result in
    let home = c.args.going_home.now.members in
    let low : c.loop-turn.turn < length c.args.waiting.now.items = omega (arith, c.loop-turn-test.true, c.requires) in
    let took : c.loop-turn.waiting.items ≡ f ∷ c.pop_front.new.self.items = c.pop_front.ensures.items ∙ ap (λ (o : Option Freed). option_to_list o ++ c.pop_front.new.self.items) c.unwrap-freed.ensures in
    let less : deque_len c.pop_front.new.self + 1 ≡ deque_len c.loop-turn.waiting = ap (λ (o : Option Freed). deque_len c.pop_front.new.self + length (option_to_list o)) (sym c.unwrap-freed.ensures) ∙ c.pop_front.ensures.len in
    elim c.if-has.branch [
      | then-has w ↦
          rw (w.waiting-is, w.reusable-is, w.kept-is) (rw w.push_back_reserved.ensures.items record {
            done = stays_more home c.args.waiting.now.items _ _ c.loop-turn.turn c.loop-turn.waiting.items c.pop_front.new.self.items c.loop-turn.kept c.loop-turn.reusable f c.loop-turn.invariant.done low took (sym c.has.ensures ∙ w.if-has.true);
            len = omega (arith, w.push_back_reserved.ensures.len, less, c.loop-turn.invariant.len);
            capacity = w.push_back_reserved.ensures.capacity ∙ c.pop_front.ensures.capacity ∙ c.loop-turn.invariant.capacity;
          })
      | else-has w ↦
          rw (w.waiting-is, w.reusable-is, w.kept-is) record {
            done = goes_more home c.args.waiting.now.items _ _ c.loop-turn.turn c.loop-turn.waiting.items c.pop_front.new.self.items c.loop-turn.kept c.loop-turn.reusable w.put.new.self f c.loop-turn.invariant.done low took (sym c.has.ensures ∙ w.if-has.false) w.put.ensures;
            len = omega (arith, less, c.loop-turn.invariant.len);
            capacity = c.pop_front.ensures.capacity ∙ c.loop-turn.invariant.capacity;
          }
    ]
