-- The number is there, or goes to its place.
use Rattle.std.proofs.Common.{◌≡◌, ◌≤◌, ◌<◌, ◌∙◌, ℕ, Some, List, slice_get, sym, subst, length, ap}
use Rattle.std.proofs.lemmas.Bool.{cond-true}
use Rattle.crash_argument.specs.HomeTest.{is_one_of}
use Rattle.engine_running.specs.Running.{IsRisingNumbers, with_number}
use Rattle.engine_running.proofs.ordering.Numbers.{there_number, placed_number, rising_number}
use Rattle.engine_running.proofs.running.insert_number.Goals as goal

pub returns-then-is_in-clause-items : goal.returns-then-is_in-clause-items
returns-then-is_in-clause-items c = there_number c.args.number c.args.numbers.now.items c.requires.rising (sym (c.is_in.ensures ∙ ap (is_one_of c.args.number) c.as_slice.ensures.value) ∙ c.if-is_in.true)

-- the numbers then
placed : (n : ℕ) (ns xs ys : List ℕ) (at : ℕ) → xs ≡ ns → ys ≡ ns → at ≤ length ys → ((k m : ℕ) → slice_get ys k ≡ Some m → k < at → m < n) → ((k m : ℕ) → slice_get ys k ≡ Some m → at ≤ k → n ≤ m) → is_one_of n xs ≡ Rattle.std.proofs.Common.false → Rattle.std.proofs.Common.insert ns at n ≡ with_number n ns
placed n ns xs ys at one two bound low high out =
    placed_number n ns at (subst (λ (l : List ℕ). at ≤ length l) two bound) (subst (λ (l : List ℕ). (k m : ℕ) → slice_get l k ≡ Some m → k < at → m < n) two low) (subst (λ (l : List ℕ). (k m : ℕ) → slice_get l k ≡ Some m → at ≤ k → n ≤ m) two high) (ap (is_one_of n) (sym one) ∙ out)

pub returns-clause-items : goal.returns-clause-items
returns-clause-items c = c.insert.ensures.items ∙ cond-true _ _ _ (c.insert.ensures.succeeds c.requires.room)
    ∙ placed c.args.number c.args.numbers.now.items c.as_slice.result.now c.as_slice-2.result.now c.number_place-at.result c.as_slice.ensures.value c.as_slice-2.ensures.value c.number_place-at.ensures.bound c.number_place-at.ensures.below c.number_place-at.ensures.above (sym c.is_in.ensures ∙ c.if-is_in.false)

pub returns-clause-rising : goal.returns-clause-rising
returns-clause-rising c = subst (λ (l : List ℕ). IsRisingNumbers l) (sym (c.insert.ensures.items ∙ cond-true _ _ _ (c.insert.ensures.succeeds c.requires.room)
    ∙ placed c.args.number c.args.numbers.now.items c.as_slice.result.now c.as_slice-2.result.now c.number_place-at.result c.as_slice.ensures.value c.as_slice-2.ensures.value c.number_place-at.ensures.bound c.number_place-at.ensures.below c.number_place-at.ensures.above (sym c.is_in.ensures ∙ c.if-is_in.false)))
    (rising_number c.args.number c.args.numbers.now.items c.requires.rising)
