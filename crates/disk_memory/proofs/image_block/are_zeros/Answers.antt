-- One byte more is looked at.
use Rattle.std.proofs.Common.{◌≡◌, ◌⊎◌, inl, inr, ℕ, max, ◌==◌, ◌&&◌, Bool, true, false, get_or, take_all, sym, ap, ◌∙◌, arith}
use Rattle.std.specs.List.{list_all}
use Rattle.std.proofs.lemmas.Bool.{cases_Bool, eq-eqb, eqb-false, eqb-true, ne_eqb}
use Rattle.std.proofs.lemmas.List.Folds.{list_all_more}
use Rattle.disk_memory.proofs.image_block.are_zeros.Goals as goal

-- the greater of two numbers is 0 exactly where both are
greater_zero : (a b : ℕ) → (max a b == 0) ≡ ((a == 0) && (b == 0))
greater_zero a b = by (cases_Bool (a == 0)) (cases_Bool (b == 0))
  where
    by : ((a == 0) ≡ true) ⊎ ((a == 0) ≡ false) → ((b == 0) ≡ true) ⊎ ((b == 0) ≡ false) → (max a b == 0) ≡ ((a == 0) && (b == 0))
    by (inl one) (inl two) = eq-eqb (max a b) 0 (omega (arith, eqb-true a 0 one, eqb-true b 0 two)) ∙ sym (ap (λ (c : Bool). c && (b == 0)) one ∙ two)
    by (inl one) (inr two) = ne_eqb (max a b) 0 (λ e. eqb-false b 0 two (omega (arith, e))) ∙ sym (ap (λ (c : Bool). c && (b == 0)) one ∙ two)
    by (inr one) two = ne_eqb (max a b) 0 (λ e. eqb-false a 0 one (omega (arith, e))) ∙ sym (ap (λ (c : Bool). c && (b == 0)) one)

pub loop-byte-preserved : goal.loop-byte-preserved
loop-byte-preserved c =
    let byte = get_or c.args.bytes.now c.loop-byte.byte-index 0 in
    ap (λ (n : ℕ). n == 0) c.max-greatest.ensures
    ∙ greater_zero c.loop-byte.greatest byte
    ∙ ap (λ (b : Bool). b && (byte == 0)) c.loop-byte.invariant
    ∙ sym (list_all_more (λ (b : ℕ). b == 0) c.args.bytes.now c.loop-byte.byte-index 0 (omega (arith, c.told-bytes, c.loop-byte-test.true)))

pub returns : goal.returns
returns c = c.loop-byte.invariant ∙ ap (list_all (λ (b : ℕ). b == 0)) (take_all c.loop-byte.byte-index c.args.bytes.now (omega (arith, c.told-bytes, c.loop-byte-test.false)))
