-- Where the number is a member, its bit is cleared and the rows have one less; else the set is the same.
use Rattle.std.proofs.Common.{◌≡◌, ℕ, ◌/◌, ◌==◌, ◌&&◌, not, true, false, slice_index, ap, sym, subst, ◌∙◌}
use Rattle.engine_reuse.specs.Numbers.{is_among, NumberSet, set_of}
use Rattle.engine_reuse.specs.Words.{has_bit}
use Rattle.engine_reuse.proofs.Members.{HasTakenOut, rows_without, set_without, none_to_take, bit_within}
use Rattle.engine_reuse.proofs.numbers.Numbers.take_out.Goals as goal

pub returns-then-not-has : goal.returns-then-not-has
returns-then-not-has c =
    let out : has_bit c.self.inside.words.items c.args.b ≡ false = ap (λ words. has_bit words c.args.b) (sym c.deref.ensures.value) ∙ sym c.has.ensures ∙ c.if-not-has.true in
    subst (λ (s : NumberSet). s ≡ set_of s.limit (λ k. not (k == c.args.b) && is_among k s.members)) c.self.view_is (none_to_take c.self.inside.words.items c.args.b out)

pub overflow_sub-self : goal.overflow_sub-self
overflow_sub-self c =
    let own : has_bit c.self.inside.words.items c.args.b ≡ true = ap (λ words. has_bit words c.args.b) (sym c.deref.ensures.value) ∙ sym c.has.ensures ∙ c.if-not-has.false in
    let out : HasTakenOut c.self.inside.words.items c.clear.new.words.items c.args.b = record { bits = c.clear.ensures.bits; others = c.clear.ensures.words; len = c.clear.ensures.len } in
    let mark = λ (w : ℕ). c.mark_empty.ensures.bits w ∙ ap (λ words. not (w == c.args.b / 64 && slice_index words (c.args.b / 64) == 0) && has_bit c.self.inside.filled.items w) c.deref-2.ensures.value in
    (rows_without _ _ _ _ c.self.inside.count c.args.b c.self.invariant (bit_within c.self.inside.words.items c.args.b own) own out mark c.mark_empty.ensures.len).0

pub invariant_of-self : goal.invariant_of-self
invariant_of-self c =
    let own : has_bit c.self.inside.words.items c.args.b ≡ true = ap (λ words. has_bit words c.args.b) (sym c.deref.ensures.value) ∙ sym c.has.ensures ∙ c.if-not-has.false in
    let out : HasTakenOut c.self.inside.words.items c.clear.new.words.items c.args.b = record { bits = c.clear.ensures.bits; others = c.clear.ensures.words; len = c.clear.ensures.len } in
    let mark = λ (w : ℕ). c.mark_empty.ensures.bits w ∙ ap (λ words. not (w == c.args.b / 64 && slice_index words (c.args.b / 64) == 0) && has_bit c.self.inside.filled.items w) c.deref-2.ensures.value in
    (rows_without _ _ _ _ c.self.inside.count c.args.b c.self.invariant (bit_within c.self.inside.words.items c.args.b own) own out mark c.mark_empty.ensures.len).1

pub returns : goal.returns
returns c =
    let out : HasTakenOut c.self.inside.words.items c.clear.new.words.items c.args.b = record { bits = c.clear.ensures.bits; others = c.clear.ensures.words; len = c.clear.ensures.len } in
    set_without c.self.inside.words.items c.clear.new.words.items c.args.b out
    ∙ ap (λ (s : NumberSet). set_of s.limit (λ k. not (k == c.args.b) && is_among k s.members)) c.self.view_is
