-- The number is where the search says, or nowhere.
use Rattle.std.proofs.Common.{◌≢◌, ◌<◌, ℕ, ◌∙◌, sym, arith}
use Rattle.std.proofs.lemmas.Bool.{le-ltb}
use Rattle.std.proofs.lemmas.Option.{slice_get_within}
use Rattle.engine_running.proofs.ordering.Numbers.{not_in, in_at}
use Rattle.engine_running.proofs.running.is_in.Goals as goal

pub returns-then-at-numbers : goal.returns-then-at-numbers
returns-then-at-numbers c = in_at c.args.number c.args.numbers.now c.number_place-at.result c.requires c.number_place-at.ensures.below c.number_place-at.ensures.above c.if-at-numbers.true

pub returns-else-at-numbers : goal.returns-else-at-numbers
returns-else-at-numbers c = le-ltb _ _ c.if-at-numbers.false ∙ sym (not_in c.args.number c.args.numbers.now
    (λ k m is. less m c.args.number (c.number_place-at.ensures.below k m is (omega (arith, slice_get_within c.args.numbers.now k m is, c.if-at-numbers.false)))))
  where
    less : (a b : ℕ) → a < b → a ≢ b
    less a b lt e = omega (arith, lt, e)
