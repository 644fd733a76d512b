-- The put goes into one row, and out of the other.
use Rattle.std.proofs.Common.{◌≡◌, ℕ, List, slice_get, Some, sym, subst, arith}
use Rattle.engine_running.specs.declared.put.Put.{Put}
use Rattle.engine_running.specs.Rows.{IsRising, with_put, without_put, LacksBlock}
use Rattle.engine_running.proofs.ordering.RowOrder.{rising_with, rising_without, apart_over, apart_back}
use Rattle.engine_running.proofs.running.Running.put.Goals as goal

abbrev AreApart : List Put → List Put → Type 0
AreApart xs ys = (k : ℕ) (q : Put) → slice_get xs k ≡ Some q → LacksBlock q.block ys

pub invariant_of-self : goal.invariant_of-self
invariant_of-self c =
    let p : Put = record { block = c.args.block; bytes = c.args.from.now } in
    let was = c.self.inside in
    let kept = c.self.invariant in
    let o = kept.ordered in
    let done = c.put_over.ensures in
    record {
      ordered = record {
        paid = subst IsRising (sym done.other) (rising_without c.args.block was.paid.items o.paid);
        laid = subst IsRising (sym done.into) (rising_with p was.laid.items o.laid);
        apart = subst (λ (l : List Put). AreApart l c.put_over.new.other.items) (sym done.into) (subst (λ (l : List Put). AreApart (with_put p was.laid.items) l) (sym done.other) (apart_over p was.laid.items was.paid.items o.paid o.apart));
      };
      numbers = kept.numbers;
      paid_has = omega (arith, done.boxes, done.other_capacity, kept.paid_has);
      laid_has = omega (arith, done.boxes, done.into_capacity, kept.laid_has);
      spare_has = omega (arith, done.boxes, done.spare_capacity, kept.spare_has);
    }

pub invariant_of-self-else-is_fresh : goal.invariant_of-self-else-is_fresh
invariant_of-self-else-is_fresh c =
    let p : Put = record { block = c.args.block; bytes = c.args.from.now } in
    let was = c.self.inside in
    let kept = c.self.invariant in
    let o = kept.ordered in
    let done = c.put_over-else-is_fresh.ensures in
    record {
      ordered = record {
        paid = subst IsRising (sym done.into) (rising_with p was.paid.items o.paid);
        laid = subst IsRising (sym done.other) (rising_without c.args.block was.laid.items o.laid);
        apart = subst (λ (l : List Put). AreApart l c.put_over-else-is_fresh.new.into.items) (sym done.other) (subst (λ (l : List Put). AreApart (without_put c.args.block was.laid.items) l) (sym done.into)
            (apart_back (with_put p was.paid.items) (without_put c.args.block was.laid.items) (apart_over p was.paid.items was.laid.items o.laid (apart_back was.laid.items was.paid.items o.apart))));
      };
      numbers = kept.numbers;
      paid_has = omega (arith, done.boxes, done.into_capacity, kept.paid_has);
      laid_has = omega (arith, done.boxes, done.other_capacity, kept.laid_has);
      spare_has = omega (arith, done.boxes, done.spare_capacity, kept.spare_has);
    }
