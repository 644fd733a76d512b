-- Where the number is no member, its bit is set and the rows have one more; else the set is the same.
use Rattle.std.proofs.Common.{◌≡◌, ◌*◌, ◌/◌, ◌<◌, ◌==◌, ◌||◌, true, false, length, ap, sym, subst, ◌∙◌, arith}
use Rattle.engine_reuse.specs.Numbers.{is_among, NumberSet, set_of}
use Rattle.engine_reuse.specs.Words.{has_bit}
use Rattle.engine_reuse.proofs.Members.{HasPut, rows_with, set_with, put_past, put_again, few_rows}
use Rattle.engine_reuse.proofs.numbers.Numbers.put.Goals as goal

pub returns-then-b-len : goal.returns-then-b-len
returns-then-b-len c =
    subst (λ (s : NumberSet). s ≡ set_of s.limit (λ k. k == c.args.b || is_among k s.members)) c.self.view_is
    (put_past c.self.inside.words.items c.args.b (omega (arith, c.if-b-len.true, c.len.ensures, c.self.inside.words.ok.0)))

pub returns-then-has : goal.returns-then-has
returns-then-has c =
    let has : has_bit c.self.inside.words.items c.args.b ≡ true = ap (λ words. has_bit words c.args.b) (sym c.deref.ensures.value) ∙ sym c.has.ensures ∙ c.if-has.true in
    subst (λ (s : NumberSet). s ≡ set_of s.limit (λ k. k == c.args.b || is_among k s.members)) c.self.view_is (put_again c.self.inside.words.items c.args.b has)

pub overflow_add-self : goal.overflow_add-self
overflow_add-self c = omega (arith, few_rows c.self.inside.words.items c.self.inside.filled.items c.self.inside.count c.self.invariant)

pub invariant_of-self : goal.invariant_of-self
invariant_of-self c =
    let within : c.args.b < 64 * length c.self.inside.words.items = omega (arith, c.if-b-len.false, c.len.ensures, c.self.inside.words.ok.0) in
    let out : has_bit c.self.inside.words.items c.args.b ≡ false = ap (λ words. has_bit words c.args.b) (sym c.deref.ensures.value) ∙ sym c.has.ensures ∙ c.if-has.false in
    let put : HasPut c.self.inside.words.items c.set.new.words.items c.args.b = record { bits = c.set.ensures.bits; others = c.set.ensures.words; len = c.set.ensures.len } in
    let mark : HasPut c.self.inside.filled.items c.set-2.new.words.items (c.args.b / 64) = record { bits = c.set-2.ensures.bits; others = c.set-2.ensures.words; len = c.set-2.ensures.len } in
    rows_with _ _ _ _ c.self.inside.count c.args.b c.self.invariant within out put mark

pub returns : goal.returns
returns c =
    let put : HasPut c.self.inside.words.items c.set.new.words.items c.args.b = record { bits = c.set.ensures.bits; others = c.set.ensures.words; len = c.set.ensures.len } in
    set_with c.self.inside.words.items c.set.new.words.items c.args.b put
    ∙ ap (λ (s : NumberSet). set_of s.limit (λ k. k == c.args.b || is_among k s.members)) c.self.view_is
