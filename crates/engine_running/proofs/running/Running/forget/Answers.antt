-- Both rows lose the block, and its boxes are spare.
use Rattle.std.proofs.Common.{◌≡◌, ◌+◌, ℕ, List, slice_get, Option, Some, None, IfSome, refl, sym, subst, arith}
use Rattle.engine_running.specs.declared.put.Put.{Put}
use Rattle.engine_running.specs.Rows.{IsRising, without_put, LacksBlock}
use Rattle.engine_running.proofs.ordering.RowOrder.{rising_without, apart_without}
use Rattle.engine_running.proofs.running.Running.forget.Goals as goal

abbrev AreApart : List Put → List Put → Type 0
AreApart xs ys = (k : ℕ) (q : Put) → slice_get xs k ≡ Some q → LacksBlock q.block ys

-- a put that was taken out of a row gives its box back
moved : (r : Option Put) (before now spare_before spare_now : ℕ) → (r ≡ None → now ≡ before) → IfSome r (λ p. now + 1 ≡ before) → (r ≡ None → spare_now ≡ spare_before) → IfSome r (λ p. spare_now ≡ spare_before + 1) → now + spare_now ≡ before + spare_before
moved None before now spare_before spare_now none some gave_none gave = omega (arith, none refl, gave_none refl)
moved (Some p) before now spare_before spare_now none some gave_none gave = omega (arith, some, gave)

pub invariant_of-self : goal.invariant_of-self
invariant_of-self c =
    let was = c.self.inside in
    let kept = c.self.invariant in
    let o = kept.ordered in
    let paid = c.take_out-paid.ensures in
    let laid = c.take_out-laid.ensures in
    let first = moved c.take_out-paid.result _ _ _ _ paid.none paid.some c.give_back.ensures.none c.give_back.ensures.some in
    let second = moved c.take_out-laid.result _ _ _ _ laid.none laid.some c.give_back-2.ensures.none c.give_back-2.ensures.some in
    record {
      ordered = record {
        paid = subst IsRising (sym paid.items) (rising_without c.args.block was.paid.items o.paid);
        laid = subst IsRising (sym laid.items) (rising_without c.args.block was.laid.items o.laid);
        apart = subst (λ (l : List Put). AreApart l c.take_out-paid.new.row.items) (sym laid.items) (subst (λ (l : List Put). AreApart (without_put c.args.block was.laid.items) l) (sym paid.items) (apart_without c.args.block was.laid.items was.paid.items o.apart));
      };
      numbers = kept.numbers;
      paid_has = omega (arith, first, second, paid.capacity, kept.paid_has);
      laid_has = omega (arith, first, second, laid.capacity, kept.laid_has);
      spare_has = omega (arith, first, second, c.give_back.ensures.capacity, c.give_back-2.ensures.capacity, kept.spare_has);
    }
