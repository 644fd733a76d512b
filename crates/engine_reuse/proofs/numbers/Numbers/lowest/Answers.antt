-- Each turn finds the next member, and the search ends where enough are found or none is left.
use Rattle.std.proofs.Common.{◌≡◌, ℕ, ◌≤◌, length, min, take, ap, sym, ◌∙◌, arith, vec_len}
use Rattle.engine_reuse.specs.Numbers.{NumberSet}
use Rattle.engine_reuse.specs.Words.{has_bit, numbers_in}
use Rattle.engine_reuse.proofs.Members.{one_found, found_enough, found_all}
use Rattle.engine_reuse.proofs.numbers.Numbers.lowest.Goals.{else-loop-self-test, then-loop-self-test+in-None}
use Rattle.engine_reuse.proofs.numbers.Numbers.lowest.Goals as goal

pub loop-self-preserved : goal.loop-self-preserved
loop-self-preserved c =
    let words = c.self.inside.words.items in
    let same : (k : ℕ) → has_bit c.deref.result.now k ≡ has_bit words k = λ k. ap (λ row. has_bit row k) c.deref.ensures.value in
    let member = c.in-Some.ensures.member in (
      rw c.push_reserved.ensures.items
          (one_found words c.loop-self.found.items c.loop-self.from c.in-Some.b c.loop-self.invariant.0 member.0 (omega (arith, member.1, ap length c.deref.ensures.value))
          (sym (same c.in-Some.b) ∙ member.2) (λ k from below. sym (same k) ∙ c.in-Some.ensures.before k from below)),
      omega (arith, c.push_reserved.ensures.len, c.loop-self-test.true, c.len.ensures),
      c.push_reserved.ensures.capacity ∙ c.loop-self.invariant.2,
    )

pub returns : goal.returns
returns c =
    let words = c.self.inside.words.items in
    let found = c.loop-self.found.items in
    let asked : c.min-count.result ≡ min c.args.n (length (numbers_in words)) = c.min-count.ensures ∙ ap (min c.args.n) c.self.invariant.count_is in
    let size : length found ≡ vec_len c.loop-self.found = sym c.loop-self.found.ok.0 in
    let most : length found ≤ min c.args.n (length (numbers_in words)) = omega (arith, size, c.loop-self.invariant.1, asked) in
    let first : found ≡ take c.args.n (numbers_in words) =
    elim c.loop-self-test.branch [
      | else-loop-self-test w ↦ found_enough words found c.loop-self.from c.args.n c.loop-self.invariant.0 (omega (arith, w.loop-self-test.false, c.len.ensures, size, asked)) most
      | then-loop-self-test+in-None w ↦
          found_all words found c.loop-self.from c.args.n c.loop-self.invariant.0
          (λ k from. ap (λ row. has_bit row k) (sym w.deref.ensures.value) ∙ w.in-None.ensures.none k from) most
    ]
    in
    first ∙ ap (λ (s : NumberSet). take c.args.n s.members) c.self.view_is
